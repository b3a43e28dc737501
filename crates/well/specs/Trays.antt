-- What a wiped tray holds.
--   Zero   every byte is 0
use Rattle.std.specs.Prelude.{◌≡◌, ℕ, ◌<◌, List, length, slice_index}

abbrev pub Zero : List ℕ → Type 0
Zero tray = (k : ℕ) → k < length tray → slice_index tray k ≡ 0
