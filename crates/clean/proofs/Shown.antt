-- The line of a fed entry shows the entry that the file holds, and the keys are dealt after it.
use Rattle.std.proofs.Common.{◌≡◌, ℕ, ◌-◌, List, ◌++◌, length, ℤ, ap, ◌∙◌}
use Rattle.well.specs.State.{State}
use Rattle.well.specs.Steps.{Outcome.fed}
use Rattle.noise_file.specs.Contents.{key_length, body}
use Rattle.noise_file.specs.Entries.{symbols_in, body_in, EntryNumbered}
use Rattle.noise_file.specs.Feeds.{StepOf}
use Rattle.noise_file.specs.Letters.{kind_letter}
use Rattle.towers.specs.Towers.{tower_letter}
use Rattle.noise_file.specs.declared.entry.Body.{Body}
use Rattle.noise_file.specs.declared.entry.Entry.{Entry}
use Rattle.clean.specs.Lines.{entry_line}
use Rattle.clean.specs.Keys.{DealtOnto}
use Rattle.clean.specs.Cleaning.{tray_room, EntryFedLine, EntryCleaned}

pub shown_line : (bs : List ℕ) (n room : ℕ) (s s' : State) (gain : ℕ) (lean : ℤ) (e : Entry) (b : Body) (kind tower : ℕ)
    → StepOf bs n room s (fed gain lean) s' → EntryNumbered bs n e → b ≡ body_in e → kind ≡ kind_letter (symbols_in e) → tower ≡ tower_letter b.tower
    → EntryFedLine bs n room s (entry_line n kind tower (length b.letters.now) gain lean) s'
shown_line bs n room s s' gain lean e b kind tower step numbered is k t =
    let kinds : symbols_in e ≡ step.kind = let a = numbered.holds.kind in let b = step.kind_read in cc in
    let towers : b.tower ≡ step.tower = let a = numbered.holds.tower in let b = step.tower_read in cc in
    let letters : b.letters.now ≡ body bs (n - 1) = let a = numbered.holds.letters in cc in
    let k' : kind ≡ kind_letter step.kind = k ∙ ap kind_letter kinds in
    let t' : tower ≡ tower_letter step.tower = t ∙ ap tower_letter towers in
    record { gain = gain; lean = lean; step = step; shows = λ i. entry_line n (k' i) (t' i) (length (letters i)) gain lean }

-- k is the length of the key buffer, z the lean as it is written
pub entry_cleaned : (bs : List ℕ) (n room k : ℕ) (s s₁ s' : State) (text text₁ text' : List ℕ) (gain : ℕ) (lean z : ℤ) (e : Entry) (b : Body) (kind tower : ℕ)
    → room ≡ tray_room → k ≡ key_length bs → StepOf bs n room s (fed gain lean) s₁ → EntryNumbered bs n e → b ≡ body_in e → kind ≡ kind_letter (symbols_in e) → tower ≡ tower_letter b.tower
    → z ≡ lean → text₁ ≡ text ++ entry_line n kind tower (length b.letters.now) gain z → DealtOnto k s₁ text₁ text' s' → EntryCleaned bs n s text text' s'
entry_cleaned bs n room k s s₁ s' text text₁ text' gain lean z e b kind tower roomy whole step numbered is ks ts same shown dealt = record {
  line = entry_line n kind tower (length b.letters.now) gain lean;
  poured_into = s₁;
  fed_line = shown_line bs n tray_room s s₁ gain lean e b kind tower (rw roomy at step) numbered is ks ts;
  keys_after = rw (shown, same, whole) at dealt;
}
