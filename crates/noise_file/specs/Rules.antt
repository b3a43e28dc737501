-- The refusal that is due to the bytes bs of a file, if any, in the order of judging.
--   head_due       under 2 bytes; then the number of entries, then the key length out of range
--   line_due       entry i: its kind unknown, then its tower unknown, then its length over the limit
--   contents_due   the contents cut, then entry by entry
--   end_due        the bodies end elsewhere than the file
--   body_due       the first letter of body i that is not of its kind
--   letters_due    the same, entry by entry
--   due            all of these, in order
use Rattle.std.specs.Prelude.{ℕ, ◌+◌, min, Bool, ◌&&◌, List, length, is_some, Some, None, Option, ◌==◌, nat_le}
use Rattle.std.specs.Option.{option_map}
use Rattle.noise_file.specs.declared.kind.Symbols.{Symbols}
use Rattle.noise_file.specs.declared.fault.FileFault.{FileFault}
use Rattle.noise_file.specs.declared.fault.FileFault.TheVariants.{Cut, Entries, KeyLength, Kind, Tower, Length, End, Letter}
use Rattle.noise_file.specs.First.{unless, first, first_over}
use Rattle.noise_file.specs.Letters.{symbols_of, code_in}
use Rattle.towers.specs.Towers.{tower_of}
use Rattle.noise_file.specs.Reading.{stray}
use Rattle.noise_file.specs.Contents.{entries, key_length, line_at, kind_byte, tower_byte, length_of, body_at, body}

abbrev between : ℕ → ℕ → ℕ → Bool
between low high n = nat_le low n && nat_le n high

abbrev pub head_due : List ℕ → Option FileFault
head_due bs = first (unless (nat_le 2 (length bs)) (Cut (length bs))) (first (unless (between 1 15 (entries bs)) Entries) (unless (between 1 32 (key_length bs)) KeyLength))

abbrev pub line_due : List ℕ → ℕ → Option FileFault
line_due bs i = first (unless (is_some (symbols_of (kind_byte bs i))) (Kind (line_at i))) (first (unless (is_some (tower_of (tower_byte bs i))) (Tower (line_at i + 1))) (unless (nat_le (length_of bs i) 4096) (Length (line_at i + 2))))

unfoldable pub contents_due : List ℕ → Option FileFault
contents_due bs = first (unless (nat_le (line_at (entries bs)) (length bs)) (Cut (length bs))) (first_over (entries bs) (line_due bs))

abbrev pub end_due : List ℕ → Option FileFault
end_due bs = unless (body_at bs (entries bs) == length bs) (End (min (body_at bs (entries bs)) (length bs)))

-- a body of an unknown kind is refused before its letters are looked at
abbrev pub stray_in : Option Symbols → List ℕ → Option ℕ
stray_in None letters = None
stray_in (Some kind) letters = stray (code_in kind) letters

unfoldable pub body_due : List ℕ → ℕ → Option FileFault
body_due bs i = option_map (λ k. Letter (body_at bs i + k)) (stray_in (symbols_of (kind_byte bs i)) (body bs i))

unfoldable pub letters_due : List ℕ → Option FileFault
letters_due bs = first_over (entries bs) (body_due bs)

unfoldable pub due : List ℕ → Option FileFault
due bs = first (head_due bs) (first (contents_due bs) (first (end_due bs) (letters_due bs)))
