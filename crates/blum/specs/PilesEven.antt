-- The two theorems of piles: what the even law that an extractor owes makes of a whole pile.
--   CountsEven      the bits are even on every count class of every size
--   OwnClassEven    the bits are even on the class of the pile: the Markov class with a Blum layer on top, else the count class
--   PilesEven       every lawful pile is both
use Rattle.std.specs.Prelude.{ℕ}
use Rattle.classes.specs.Recordings.{Sized}
use Rattle.classes.specs.Evenness.{Even, EvenOver}
use Rattle.extractors.specs.Piles.{Pile, bits, class, Lawful}

abbrev pub CountsEven : Pile → Type 0
CountsEven p = (m : ℕ) → Sized m → Even m (bits p m)

abbrev pub OwnClassEven : Pile → Type 0
OwnClassEven p = (m : ℕ) → Sized m → EvenOver m (class p m) (bits p m)

abbrev pub PilesEven : Type 0
PilesEven = (p : Pile) → Lawful p → CountsEven p × OwnClassEven p
