-- What an accepted file is.
--   Legible    entry i: its kind and its tower are known, its length is at most 4,096, its body lies in the file
--   Accepted   a file that opens
use Rattle.std.specs.Prelude.{◌≡◌, ℕ, ◌+◌, ◌<◌, ◌≤◌, true, List, length, is_some, Some, None}
use Rattle.noise_file.specs.declared.kind.Symbols.{Symbols}
use Rattle.noise_file.specs.Letters.{symbols_of, code_in}
use Rattle.towers.specs.Towers.{tower_of}
use Rattle.noise_file.specs.Reading.{stray}
use Rattle.noise_file.specs.Contents.{entries, key_length, line_at, kind_byte, tower_byte, length_of, body_at, body}

pub record Legible (bs : List ℕ) (i : ℕ) : Type 0 where
  pub listed : line_at i + 4 ≤ line_at (entries bs)
  pub kind : is_some (symbols_of (kind_byte bs i)) ≡ true
  pub tower : is_some (tower_of (tower_byte bs i)) ≡ true
  pub short : length_of bs i ≤ 4096
  pub within : body_at bs i + length_of bs i ≤ length bs

pub record Accepted (bs : List ℕ) : Type 0 where
  pub some_entry : 1 ≤ entries bs
  pub few_entries : entries bs ≤ 15
  pub some_key : 1 ≤ key_length bs
  pub short_key : key_length bs ≤ 32
  pub contents : line_at (entries bs) ≤ length bs
  pub legible : (i : ℕ) → i < entries bs → Legible bs i
  -- body i + 1 begins where body i ends, and the last one ends the file
  pub bodies_end : body_at bs (entries bs) ≡ length bs
  pub of_kind : (i : ℕ) → i < entries bs → (kind : Symbols) → symbols_of (kind_byte bs i) ≡ Some kind → stray (code_in kind) (body bs i) ≡ None
