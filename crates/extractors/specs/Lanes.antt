-- The lanes of a recording, and the bits that an extractor gives of them: the rule of the Blum layer.
--   lane     the code after each visit to a state, in order
--   kept     the lane without its last exit; the lane of the recording's last code is kept whole
--   blum     the bits of the kept lanes
use Rattle.std.specs.Prelude.{ℕ, Bool, cond, List, [], ◌∷◌, ◌==◌}
use Rattle.classes.specs.Recordings.{last}
use Rattle.extractors.specs.Bits.{gather}

-- the lane of s in the recording that begins with a and goes on with y
abbrev pub lane_from : ℕ → ℕ → List ℕ → List ℕ
lane_from s a [] = []
lane_from s a (b ∷ y) = cond (a == s) (b ∷ lane_from s b y) (lane_from s b y)

abbrev pub lane : ℕ → List ℕ → List ℕ
lane s [] = []
lane s (a ∷ y) = lane_from s a y

-- the list that begins with a and goes on with l, without its last element
abbrev pub init_from : ℕ → List ℕ → List ℕ
init_from a [] = []
init_from a (b ∷ l) = a ∷ init_from b l

abbrev pub init : List ℕ → List ℕ
init [] = []
init (a ∷ l) = init_from a l

abbrev pub kept : ℕ → List ℕ → List ℕ
kept s x = cond (last x == s) (lane s x) (init (lane s x))

abbrev pub blum : ℕ → (List ℕ → List Bool) → List ℕ → List Bool
blum m f x = gather m (λ s. f (kept s x))
