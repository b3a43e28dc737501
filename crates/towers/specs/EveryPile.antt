-- Every pile of the layers on every extractor that shows the even law.
--   CoinPile     what a coin extractor gives: one that shows the law, or a Peres layer on such a pile
--   SymbolPile   a pile that feeds a well: an extractor that shows the law, a split layer on coins, or a Blum layer on such a pile
--   EveryPile    each of them is lawful, even on every count class of every size, and even on its own class
use Rattle.std.specs.Prelude.{ℕ, ◌≤◌, Bool, List}
use Rattle.classes.specs.Recordings.{width}
use Rattle.classes.specs.Evenness.{Even}
use Rattle.extractors.specs.Piles.{Pile, Pile.bare, Pile.laned, Lawful, bits}
use Rattle.peres.specs.PeresRule.{peres}
use Rattle.split.specs.SplitRule.{split}
use Rattle.blum.specs.PilesEven.{CountsEven, OwnClassEven}

pub data CoinPile : (List ℕ → List Bool) → Type 0 where
  coins_shown : {f : List ℕ → List Bool} → Even 2 f → CoinPile f
  peres_on : {f : List ℕ → List Bool} (d : ℕ) → d ≤ 12 → CoinPile f → CoinPile (peres d f)

pub data SymbolPile : Pile → Type 0 where
  pile_shown : {p : Pile} → Lawful p → SymbolPile p
  split_on : {f : List ℕ → List Bool} → CoinPile f → SymbolPile (bare (λ m. split (width m) f))
  blum_on : {p : Pile} → SymbolPile p → SymbolPile (laned (bits p))

abbrev pub EveryPile : Type 0
EveryPile = (p : Pile) → SymbolPile p → Lawful p × CountsEven p × OwnClassEven p
