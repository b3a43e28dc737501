-- Alphabets and recordings.
--   Sized        the size of an alphabet: 2 to 16
--   Codes        every code is below the size; a code is a number from 0 to the size less 1
--   Recording    0 to 4,096 codes of one size
--   width        the number of bits that write any code of a size
--   LeastWidth   what the width is: the least w for which 2 to the power w is at least the size
--   count        how often a code stands in a recording
--   first, last  the first and the last code (0 where there is none)
--   steps        how often a recording steps from one code to another
use Rattle.std.specs.Prelude.{ℕ, ◌+◌, ◌^◌, ◌<◌, ◌≤◌, cond, List, [], ◌∷◌, length, ◌==◌, nat_eq, nat_le}
use Rattle.std.specs.List.{AllByRecursion}
use Rattle.classes.specs.Counting.{one_if, tally}

abbrev pub Sized : ℕ → Type 0
Sized m = (2 ≤ m) × (m ≤ 16)

abbrev pub Codes : ℕ → List ℕ → Type 0
Codes m x = AllByRecursion (λ c. c < m) x

abbrev pub Recording : ℕ → List ℕ → Type 0
Recording m x = Codes m x × (length x ≤ 4096)

abbrev pub width : ℕ → ℕ
width m = cond (nat_le m 2) 1 (cond (nat_le m 4) 2 (cond (nat_le m 8) 3 4))

pub record LeastWidth (m w : ℕ) : Type 0 where
  pub reaches : m ≤ 2 ^ w
  pub least : (v : ℕ) → m ≤ 2 ^ v → w ≤ v

abbrev pub count : ℕ → List ℕ → ℕ
count c x = tally (λ b. nat_eq b c) x

-- the last code of the recording that begins with a and goes on with y
abbrev pub final : ℕ → List ℕ → ℕ
final a [] = a
final a (b ∷ y) = final b y

-- how often the recording that begins with a and goes on with y steps from s to c
abbrev pub steps_from : ℕ → ℕ → ℕ → List ℕ → ℕ
steps_from s c a [] = 0
steps_from s c a (b ∷ y) = cond (a == s) (one_if (b == c)) 0 + steps_from s c b y

abbrev pub first : List ℕ → ℕ
first [] = 0
first (a ∷ y) = a

abbrev pub last : List ℕ → ℕ
last [] = 0
last (a ∷ y) = final a y

abbrev pub steps : ℕ → ℕ → List ℕ → ℕ
steps s c [] = 0
steps s c (a ∷ y) = steps_from s c a y
