-- What feeding an entry of the file's bytes bs to a well leaves; n is the number of the entry, from 1.
--   size_in      the size of a kind
--   Listed       the file has an entry of that number
--   LettersFed   a step of the well: letters are read as codes and these are fed
--   StepOf       the step of the well that feeds entry n
--   RefusedFeed  a refusal: by the file, with the well as it was, or by the well, in its own step
--   NumberFed    what feeding entry n leaves
--   EntryFed     the same, with the entry number added to a fault and nothing else
--   refusal_of   the table of an entry feed's refusals: those of file and well, passed up whole
use Rattle.std.specs.Prelude.{◌≡◌, ℕ, ◌-◌, ◌≤◌, ◌⊎◌, List, ℤ, Some, Ok, Err, Option, Result}
use Rattle.extractors.specs.declared.fault.Refusal.{Refusal}
use Rattle.extractors.specs.Piles.{Pile}
use Rattle.well.specs.Faults as well
use Rattle.well.specs.State.{State}
use Rattle.well.specs.Steps.{Call.feed, Outcome, Outcome.fed, Outcome.refused, Step}
use Rattle.noise_file.specs.declared.kind.Symbols.{Symbols}
use Rattle.noise_file.specs.declared.kind.Symbols.TheVariants.{Coins, Faces, Labels}
use Rattle.towers.specs.declared.tower.Tower.{Tower}
use Rattle.noise_file.specs.declared.fault.FileFault.TheVariants.{Number, Memory}
use Rattle.noise_file.specs.declared.fault.FeedFault.{FeedFault}
use Rattle.noise_file.specs.declared.fault.FeedFault.TheVariants.{File, Well}
use Rattle.noise_file.specs.declared.fault.EntryFault.{EntryFault}
use Rattle.noise_file.specs.Faults as file
use Rattle.noise_file.specs.Letters.{symbols_of, code_in}
use Rattle.noise_file.specs.Reading.{ReadAs}
use Rattle.towers.specs.Towers.{pile_of, tower_of}
use Rattle.noise_file.specs.Contents.{entries, kind_byte, tower_byte, body}

abbrev pub size_in : Symbols → ℕ
size_in Coins = 2
size_in Faces = 6
size_in Labels = 16

abbrev pub Listed : List ℕ → ℕ → Type 0
Listed bs n = (1 ≤ n) × (n ≤ entries bs)

-- k is the length of the tray
pub record LettersFed (m : ℕ) (f : ℕ → Option ℕ) (p : Pile) (letters : List ℕ) (k : ℕ) (s : State) (o : Outcome) (s' : State) : Type 0 where
  pub codes : List ℕ
  pub read : ReadAs m f letters codes
  pub step : Step s (feed p m codes k) o s'

pub record StepOf (bs : List ℕ) (n k : ℕ) (s : State) (o : Outcome) (s' : State) : Type 0 where
  pub listed : Listed bs n
  pub kind : Symbols
  pub kind_read : symbols_of (kind_byte bs (n - 1)) ≡ Some kind
  pub tower : Tower
  pub tower_read : tower_of (tower_byte bs (n - 1)) ≡ Some tower
  pub letters_fed : LettersFed (size_in kind) (code_in kind) (pile_of tower) (body bs (n - 1)) k s o s'

abbrev pub RefusedFeed : List ℕ → ℕ → ℕ → State → FeedFault → State → Type 0
RefusedFeed bs n k s (File f) s' = (s' ≡ s) × (((Listed bs n → ⊥) × (f ≡ Number n)) ⊎ (Listed bs n × (f ≡ Memory)))
RefusedFeed bs n k s (Well f) s' = StepOf bs n k s (refused f) s'

abbrev pub NumberFed : List ℕ → ℕ → ℕ → State → Result (ℕ × ℤ) FeedFault → State → Type 0
NumberFed bs n k s (Ok a) s' = StepOf bs n k s (fed a.0 a.1) s'
NumberFed bs n k s (Err e) s' = RefusedFeed bs n k s e s'

abbrev pub EntryFed : List ℕ → ℕ → ℕ → State → Result (ℕ × ℤ) EntryFault → State → Type 0
EntryFed bs n k s (Ok a) s' = StepOf bs n k s (fed a.0 a.1) s'
EntryFed bs n k s (Err e) s' = (e.entry ≡ n) × RefusedFeed bs n k s e.fault s'

abbrev pub refusal_of : FeedFault → Refusal
refusal_of (File f) = file.refusal_of f
refusal_of (Well f) = well.refusal_of f
