-- Every pile of the layers is lawful, and so even on its classes. Assumes nothing.
use Rattle.std.proofs.Common.{ℕ, Bool, List}
use Rattle.classes.specs.Evenness.{Even}
use Rattle.extractors.specs.Piles.{Pile, Lawful}
use Rattle.peres.specs.PeresEven.{peres_even}
use Rattle.split.specs.SplitEven.{split_even}
use Rattle.blum.specs.PileTheorems.{piles_even}
use Rattle.towers.specs.EveryPile.{CoinPile, CoinPile.coins_shown, CoinPile.peres_on, SymbolPile, SymbolPile.pile_shown, SymbolPile.split_on, SymbolPile.blum_on, EveryPile}

coins_even : {f : List ℕ → List Bool} → CoinPile f → Even 2 f
coins_even (coins_shown law) = law
coins_even (peres_on {f} d few below) = peres_even d f (coins_even below)

lawful : {p : Pile} → SymbolPile p → Lawful p
lawful (pile_shown law) = law
lawful (split_on {f} below) = λ m sized. split_even m f sized (coins_even below)
lawful (blum_on {p} below) = (piles_even p (lawful below)).0

pub every_pile : EveryPile
every_pile p built = let law = lawful built in let even = piles_even p law in (law, even.0, even.1)
