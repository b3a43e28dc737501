-- The examples by their proof.
use Rattle.std.proofs.Common.{refl}
use Rattle.towers.proofs.Worked.{worked}
use Rattle.towers.proofs.examples.worked_examples.Goals as goal

pub returns : goal.returns
returns c = record { shown = worked; count = refl }
