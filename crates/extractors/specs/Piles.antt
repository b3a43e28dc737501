-- What a symbol extractor means: data without evidence, so that a contract and a statement over many calls can name it.
--   Pile     an extractor with its layers, by the bits that it gives for each size: of a recording itself, or of its lanes
--   bits     the bits that a pile gives
--   class    the class on which they are even: the Markov class with a Blum layer on top, else the count class
--   Lawful   the even law that is owed: on every count class of every size
use Rattle.std.specs.Prelude.{ℕ, Bool, List}
use Rattle.classes.specs.Recordings.{Sized}
use Rattle.classes.specs.Classes.{count_class, markov_class}
use Rattle.classes.specs.Evenness.{Even}
use Rattle.extractors.specs.Lanes.{blum}

pub data Pile : Type 0 where
  bare : (ℕ → List ℕ → List Bool) → Pile
  laned : (ℕ → List ℕ → List Bool) → Pile

abbrev pub bits : Pile → ℕ → List ℕ → List Bool
bits (bare f) m = f m
bits (laned f) m = blum m (f m)

abbrev pub class : Pile → ℕ → List ℕ → List (List ℕ)
class (bare f) m x = count_class m x
class (laned f) m x = markov_class m x

abbrev pub Lawful : Pile → Type 0
Lawful (bare f) = (m : ℕ) → Sized m → Even m (f m)
Lawful (laned f) = (m : ℕ) → Sized m → Even m (f m)
