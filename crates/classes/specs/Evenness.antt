-- The even law: two bit strings of equal length are given by equally many recordings of a class.
--   EvenOn      the law for one class, a count over its members
--   EvenOver    the law on the class of every recording of a size
--   Even        the law on every count class of a size
--   EvenChains  the law on every Markov class of a size
--   YieldBound  what the law on count classes implies for the length of what is given
use Rattle.std.specs.Prelude.{◌≡◌, ℕ, ◌*◌, ◌≤◌, Bool, List, length}
use Rattle.classes.specs.Counting.{tally, same_bits}
use Rattle.classes.specs.Recordings.{Sized, Recording, width}
use Rattle.classes.specs.Classes.{count_class, markov_class}

abbrev pub EvenOn : (List ℕ → List Bool) → List (List ℕ) → Type 0
EvenOn f class = (s t : List Bool) → length s ≡ length t → tally (λ z. same_bits (f z) s) class ≡ tally (λ z. same_bits (f z) t) class

abbrev pub EvenOver : ℕ → (List ℕ → List (List ℕ)) → (List ℕ → List Bool) → Type 0
EvenOver m members f = (x : List ℕ) → Recording m x → EvenOn f (members x)

abbrev pub Even : ℕ → (List ℕ → List Bool) → Type 0
Even m f = EvenOver m (count_class m) f

abbrev pub EvenChains : ℕ → (List ℕ → List Bool) → Type 0
EvenChains m f = EvenOver m (markov_class m) f

-- a yield is at most the width times the length
abbrev pub YieldBound : Type 0
YieldBound = (m : ℕ) → Sized m → (f : List ℕ → List Bool) → Even m f → (x : List ℕ) → Recording m x → length (f x) ≤ width m * length x
