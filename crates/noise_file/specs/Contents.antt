-- What the bytes bs of a noise file say; entries are counted from 0.
--   entries      byte 0, the number of entries
--   key_length   byte 1, the length of a key in bytes
--   line_at      where the four bytes of entry i stand
--   kind_byte    its kind letter
--   tower_byte   its tower letter
--   length_of    the length of its body, high byte first
--   body_at      where its body begins: after the contents and the bodies before it
--   body         its letters
use Rattle.std.specs.Prelude.{ℕ, zero, suc, ◌+◌, ◌*◌, List, take, drop, slice_index}

abbrev pub entries : List ℕ → ℕ
entries bs = slice_index bs 0

abbrev pub key_length : List ℕ → ℕ
key_length bs = slice_index bs 1

abbrev pub line_at : ℕ → ℕ
line_at i = 2 + 4 * i

abbrev pub kind_byte : List ℕ → ℕ → ℕ
kind_byte bs i = slice_index bs (line_at i)

abbrev pub tower_byte : List ℕ → ℕ → ℕ
tower_byte bs i = slice_index bs (line_at i + 1)

abbrev pub length_of : List ℕ → ℕ → ℕ
length_of bs i = 256 * slice_index bs (line_at i + 2) + slice_index bs (line_at i + 3)

abbrev pub body_at : List ℕ → ℕ → ℕ
body_at bs zero = line_at (entries bs)
body_at bs (suc i) = body_at bs i + length_of bs i

abbrev pub body : List ℕ → ℕ → List ℕ
body bs i = take (length_of bs i) (drop (body_at bs i) bs)
