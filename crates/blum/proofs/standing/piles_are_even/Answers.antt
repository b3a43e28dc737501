-- The theorems of piles.
use Rattle.std.proofs.Common.{refl}
use Rattle.blum.specs.PileTheorems.{piles_even}
use Rattle.blum.proofs.standing.piles_are_even.Goals as goal

pub returns : goal.returns
returns c = record { both = piles_even; answer = refl }
