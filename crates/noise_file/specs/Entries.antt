-- What an opened entry holds of the file's bytes bs.
--   symbols_in       the kind of an entry
--   body_in          its part of the file
--   Holds            an entry is entry i of the file: its kind, its tower, its place and its letters
--   EntryNumbered    an entry is that of a number: the file lists it, every letter is of its kind, and they are few
--   Answered         the answer for an entry number
use Rattle.std.specs.Prelude.{◌≡◌, ℕ, ◌-◌, ◌≤◌, List, length, Some, None, Ok, Err, Result}
use Rattle.noise_file.specs.declared.kind.Symbols.{Symbols}
use Rattle.noise_file.specs.declared.kind.Symbols.TheVariants as symbols
use Rattle.noise_file.specs.declared.entry.Body.{Body}
use Rattle.noise_file.specs.declared.entry.Entry.{Entry}
use Rattle.noise_file.specs.declared.entry.Entry.TheVariants.{Coins, Faces, Labels}
use Rattle.noise_file.specs.declared.fault.FileFault.{FileFault}
use Rattle.noise_file.specs.declared.fault.FileFault.TheVariants.{Number}
use Rattle.noise_file.specs.Letters.{symbols_of, code_in}
use Rattle.noise_file.specs.Reading.{stray}
use Rattle.towers.specs.Towers.{tower_of}
use Rattle.noise_file.specs.Contents.{entries, kind_byte, tower_byte, body_at, body}

abbrev pub symbols_in : Entry → Symbols
symbols_in (Coins b) = symbols.Coins
symbols_in (Faces b) = symbols.Faces
symbols_in (Labels b) = symbols.Labels

abbrev pub body_in : Entry → Body
body_in (Coins b) = b
body_in (Faces b) = b
body_in (Labels b) = b

pub record Holds (bs : List ℕ) (i : ℕ) (e : Entry) : Type 0 where
  pub kind : symbols_of (kind_byte bs i) ≡ Some (symbols_in e)
  pub tower : tower_of (tower_byte bs i) ≡ Some (body_in e).tower
  pub place : (body_in e).at ≡ body_at bs i
  pub letters : (body_in e).letters.now ≡ body bs i

-- n counts from 1
pub record EntryNumbered (bs : List ℕ) (n : ℕ) (e : Entry) : Type 0 where
  pub from_one : 1 ≤ n
  pub listed : n ≤ entries bs
  pub holds : Holds bs (n - 1) e
  pub of_kind : stray (code_in (symbols_in e)) (body_in e).letters.now ≡ None
  pub short : length (body_in e).letters.now ≤ 4096

abbrev pub Answered : List ℕ → ℕ → Result Entry FileFault → Type 0
Answered bs n (Ok e) = EntryNumbered bs n e
Answered bs n (Err f) = (1 ≤ n → n ≤ entries bs → ⊥) × (f ≡ Number n)
