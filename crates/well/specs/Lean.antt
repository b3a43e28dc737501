-- What the bits of a feed weigh.
--   flags   the bits that the bytes of a tray stand for: a byte 1 is a one, any other a zero
--   ones    the number of ones
--   zeros   the number of zeros
--   lean    ones minus zeros, which may be negative
use Rattle.std.specs.Prelude.{ℕ, Bool, not, List, map, ℤ, pos, ◌-ℤ◌, count_by, nat_eq}

abbrev pub flags : List ℕ → List Bool
flags tray = map (λ byte. nat_eq byte 1) tray

abbrev pub ones : List Bool → ℕ
ones bits = count_by (λ bit. bit) bits

abbrev pub zeros : List Bool → ℕ
zeros bits = count_by not bits

abbrev pub lean : List Bool → ℤ
lean bits = pos (ones bits) -ℤ pos (zeros bits)
