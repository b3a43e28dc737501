-- What the program prints of the bytes bs of a file; entries are numbered from 1.
--   tray_room         the bytes of the tray: enough for 4,096 codes of the largest size
--   EntryFedLine      an entry fed to the well, and its line: the entry as the file lists it, the yield and the lean as answered
--   EntryCleaned      the same, its line added to a text, and keys dealt onto it
--   EntriesCleaned    the text and the state of the well after the first n entries, fed in order to a well of mark 1
--   Ready             the file lists entry n, and a well has room for all the bits that an entry can give
--   Wanting           a fault that stands for want of memory: its number is 0
--   FileCleaned       the text of an accepted file: all its entries in order, then the last line
--   Cleaned           the text of a file: the line of the refusal that is due, or else that of an accepted file
use Rattle.std.specs.Prelude.{◌≡◌, ℕ, zero, suc, ◌+◌, ◌-◌, ◌≤◌, List, [], ◌++◌, length, ℤ}
use Rattle.well.specs.State.{State, fresh}
use Rattle.well.specs.Steps.{First, Outcome.fed}
use Rattle.noise_file.specs.Contents.{entries, key_length, body}
use Rattle.noise_file.specs.Faults.{refusal_of}
use Rattle.noise_file.specs.Feeds.{StepOf, Listed}
use Rattle.noise_file.specs.Feeds as feed
use Rattle.noise_file.specs.Letters.{kind_letter}
use Rattle.noise_file.specs.Rules.{due}
use Rattle.towers.specs.Towers.{tower_letter}
use Rattle.clean.specs.declared.fault.CleanFault.{CleanFault}
use Rattle.clean.specs.declared.fault.CleanFault.TheVariants.{Memory, Entry}
use Rattle.clean.specs.Lines.{entry_line, last_line, refusal_line}
use Rattle.clean.specs.Keys.{DealtOnto}

abbrev pub tray_room : ℕ
tray_room = 16384

pub record EntryFedLine (bs : List ℕ) (n : ℕ) (room : ℕ) (s : State) (line : List ℕ) (s' : State) : Type 0 where
  pub gain : ℕ
  pub lean : ℤ
  pub step : StepOf bs n room s (fed gain lean) s'
  pub shows : line ≡ entry_line n (kind_letter step.kind) (tower_letter step.tower) (length (body bs (n - 1))) gain lean

pub record EntryCleaned (bs : List ℕ) (n : ℕ) (s : State) (text text' : List ℕ) (s' : State) : Type 0 where
  pub line : List ℕ
  pub poured_into : State
  pub fed_line : EntryFedLine bs n tray_room s line poured_into
  pub keys_after : DealtOnto (key_length bs) poured_into (text ++ line) text' s'

abbrev pub EntriesCleaned : List ℕ → ℕ → List ℕ → State → Type 0
EntriesCleaned bs zero text s = (text ≡ []) × (s ≡ fresh 1)
EntriesCleaned bs (suc n) text s = (text₀ : List ℕ) × (s₀ : State) × EntriesCleaned bs n text₀ s₀ × EntryCleaned bs (suc n) s₀ text₀ text s

pub record Ready (bs : List ℕ) (n : ℕ) (s : State) : Type 0 where
  pub listed : Listed bs n
  pub room_held : length s.queue + tray_room ≤ 16640
  pub room_poured : s.poured + tray_room ≤ 16777216

abbrev pub Wanting : CleanFault → Type 0
Wanting Memory = Unit {0}
Wanting (Entry e) = (feed.refusal_of e.fault).number ≡ 0

pub record FileCleaned (bs : List ℕ) (text : List ℕ) : Type 0 where
  pub before : List ℕ
  pub end_state : State
  pub in_order : EntriesCleaned bs (entries bs) before end_state
  pub last : text ≡ before ++ last_line end_state.poured end_state.loaded (length end_state.queue)

abbrev pub Cleaned : List ℕ → List ℕ → Type 0
Cleaned bs text = First (due bs) (λ f. text ≡ refusal_line (refusal_of f).number (refusal_of f).place) (FileCleaned bs text)
