-- Parts of a recording filed in rows, a list of codes for each key from 0 up.
--   Filed    row s is part s of the recording, for each s below m
use Rattle.std.specs.Prelude.{◌≡◌, ℕ, ◌<◌, List, [], length, get_or}

pub record Filed (m : ℕ) (part : ℕ → List ℕ → List ℕ) (x : List ℕ) (rows : List (List ℕ)) : Type 0 where
  pub keys : length rows ≡ m
  pub each : (s : ℕ) → s < m → get_or rows s [] ≡ part s x
