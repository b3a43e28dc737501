-- Bit strings, the bytes in which a tray holds them, and many of them one after the other.
--   byte    1 for a set bit, else 0
--   bytes   one byte for each bit
--   gather  the bit strings of the numbers 0 to n - 1, one after the other
use Rattle.std.specs.Prelude.{ℕ, zero, suc, Bool, true, false, List, [], ◌∷◌, ◌++◌}

abbrev pub byte : Bool → ℕ
byte true = 1
byte false = 0

abbrev pub bytes : List Bool → List ℕ
bytes [] = []
bytes (b ∷ s) = byte b ∷ bytes s

abbrev pub gather : ℕ → (ℕ → List Bool) → List Bool
gather zero g = []
gather (suc n) g = gather n g ++ g n
