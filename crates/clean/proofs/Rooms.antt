-- A well from which keys are dealt after each entry has room for every entry of an accepted file.
use Rattle.std.proofs.Common.{◌≡◌, ℕ, zero, suc, ◌+◌, ◌-◌, ◌*◌, ◌<◌, ◌≤◌, Bool, ◌⊎◌, List, [], ◌∷◌, length, ℤ, Some, None, Option, sym, ap, subst, inl, inr, le_trans, mul-le-mul, arith, lit≤, length-take}
use Rattle.std.proofs.lemmas.Bool.Decides.{nat_tests}
use Rattle.classes.specs.Recordings.{Sized, Recording, width}
use Rattle.classes.proofs.Yields.{yield_bound}
use Rattle.blum.specs.PileTheorems.{piles_even}
use Rattle.extractors.specs.declared.fault.ExtractorFault.TheVariants.{Memory}
use Rattle.extractors.specs.Piles.{Pile, Lawful, bits}
use Rattle.extractors.proofs.Judging.{unrefused}
use Rattle.well.specs.declared.fault.WellFault.{WellFault}
use Rattle.well.specs.declared.fault.WellFault.TheVariants.{Extractor}
use Rattle.well.specs.State.{State}
use Rattle.well.specs.Lean.{lean as lean_of}
use Rattle.well.specs.Steps.{Call.feed, Outcome, Outcome.fed, Outcome.refused, First, Kept, Step, no_room, filled}
use Rattle.noise_file.specs.declared.kind.Symbols.{Symbols}
use Rattle.noise_file.specs.declared.kind.Symbols.TheVariants.{Coins, Faces, Labels}
use Rattle.noise_file.specs.Contents.{entries, key_length, body}
use Rattle.noise_file.specs.Feeds.{size_in, StepOf}
use Rattle.towers.specs.Towers.{pile_of}
use Rattle.noise_file.specs.Opened.{Accepted}
use Rattle.noise_file.specs.Reading.{ReadAs}
use Rattle.clean.specs.Keys.{after_key, Dealt}
use Rattle.clean.specs.Cleaning.{tray_room, EntriesCleaned, Ready}

-- a lawful pile's bits are at most the width for each code
yield_fits : (p : Pile) (m : ℕ) (x : List ℕ) → Lawful p → Sized m → Recording m x → length (bits p m x) ≤ width m * length x
yield_fits p m x law sized rec = yield_bound m sized (bits p m) ((piles_even p law).0 m sized) x rec

width_small : (m : ℕ) → width m ≤ 4
width_small m = grind (arith, nat_tests)

kind_sized : (kind : Symbols) → Sized (size_in kind)
kind_sized Coins = (lit≤ tt, lit≤ tt)
kind_sized Faces = (lit≤ tt, lit≤ tt)
kind_sized Labels = (lit≤ tt, lit≤ tt)

fits_tray : (m : ℕ) (x : List ℕ) → Recording m x → width m * length x ≤ tray_room
fits_tray m x rec = mul-le-mul (width_small m) rec.1

room_none : (s : State) (y : ℕ) → s.poured + y ≤ 16777216 → length s.queue + y ≤ 16640 → no_room s y ≡ None
room_none s y p h = grind (arith, nat_tests)

-- what is left of a feed's step where no refusal is due to its input
abbrev Rest : State → List Bool → Outcome → State → Type 0
Rest s b o s' = Kept s o s' (Extractor Memory) ⊎ First (no_room s (length b)) (Kept s o s') ((o ≡ fed (length b) (lean_of b)) × (s' ≡ filled s b))

rest : (p : Pile) (m : ℕ) (x : List ℕ) (s s' : State) (o : Outcome) → Sized m → Recording m x → Step s (feed p m x tray_room) o s' → Rest s (bits p m x) o s'
rest p m x s s' o sized rec step =
    subst (λ d. First d (λ e. Kept s o s' (Extractor e)) (Rest s (bits p m x) o s')) (unrefused m x tray_room sized rec (fits_tray m x rec)) step.1

rest_poured : (s s' : State) (b : List Bool) (gain : ℕ) (lean : ℤ) → Rest s b (fed gain lean) s' → s'.poured ≡ s.poured + length b
rest_poured s s' b gain lean (inl kept) = let no = kept.0 in cc
rest_poured s s' b gain lean (inr r) = at (no_room s (length b)) r
  where
    at : (o : Option WellFault) → First o (Kept s (fed gain lean) s') ((fed gain lean ≡ fed (length b) (lean_of b)) × (s' ≡ filled s b)) → s'.poured ≡ s.poured + length b
    at (Some f) kept = let no = kept.0 in cc
    at None a = ap (λ (t : State). t.poured) a.1

rest_refused : (s s' : State) (b : List Bool) (f : WellFault) → no_room s (length b) ≡ None → Rest s b (refused f) s' → f ≡ Extractor Memory
rest_refused s s' b f roomy (inl kept) = let same = kept.0 in cc
rest_refused s s' b f roomy (inr r) = let answered = rw roomy at r in let no = answered.0 in cc

module _ (bs : List ℕ) (accepted : Accepted bs) where
  body_short : (i : ℕ) → i < entries bs → length (body bs i) ≤ 4096
  body_short i h = let short = (accepted.legible i h).short in simp length-take (omega arith)

  recorded : (n : ℕ) → 1 ≤ n → n ≤ entries bs → (m : ℕ) (f : ℕ → Option ℕ) (codes : List ℕ) → ReadAs m f (body bs (n - 1)) codes → Recording m codes
  recorded n some listed m f codes read = (read.below, subst (λ (k : ℕ). k ≤ 4096) (sym read.as_many) (body_short (n - 1) (omega arith)))

  -- the step that feeds entry n: its bits are few, and what is left of the step
  entry_rest : (n : ℕ) (s s' : State) (o : Outcome) → StepOf bs n tray_room s o s' → (b : List Bool) × (length b ≤ tray_room) × Rest s b o s'
  entry_rest n s s' o step =
      let fed-letters = step.letters_fed in
      let m = size_in step.kind in
      let p = pile_of step.tower in
      let x = fed-letters.codes in
      let sized = kind_sized step.kind in
      let rec = recorded n step.listed.0 step.listed.1 m _ x fed-letters.read in
      (bits p m x, le_trans (yield_fits p m x fed-letters.step.0 sized rec) (fits_tray m x rec), rest p m x s s' o sized rec fed-letters.step)

  entry_poured : (n : ℕ) (s s' : State) (gain : ℕ) (lean : ℤ) → StepOf bs n tray_room s (fed gain lean) s' → s'.poured ≤ s.poured + tray_room
  entry_poured n s s' gain lean step =
      let r = entry_rest n s s' (fed gain lean) step in
      omega (arith, r.1, rest_poured s s' r.0 gain lean r.2)

  -- a ready well refuses the entry for want of memory only
  pub entry_refused : (n : ℕ) (s s' : State) (f : WellFault) → Ready bs n s → StepOf bs n tray_room s (refused f) s' → f ≡ Extractor Memory
  entry_refused n s s' f ready step =
      let r = entry_rest n s s' (refused f) step in
      rest_refused s s' r.0 f (room_none s (length r.0) (omega (arith, r.1, ready.room_poured)) (omega (arith, r.1, ready.room_held))) r.2

dealt_keeps : (k : ℕ) (s : State) (keys : List (List ℕ)) (s' : State) → Dealt k s keys s' → (s'.poured ≡ s.poured) × (length s'.queue < 8 * k)
dealt_keeps k s [] s' d = (ap (λ (t : State). t.poured) d.1, subst (λ (t : State). length t.queue < 8 * k) (sym d.1) d.0)
dealt_keeps k s (key ∷ keys) s' d = dealt_keeps k (after_key s k) keys s' d.2

-- what is poured and held after the first n entries
pub entries_bounds : (bs : List ℕ) → Accepted bs → (n : ℕ) (text : List ℕ) (s : State) → EntriesCleaned bs n text s → (s.poured ≤ n * tray_room) × (length s.queue ≤ 256)
entries_bounds bs accepted zero text s e =
    (subst (λ (t : State). t.poured ≤ 0 * tray_room) (sym e.1) (lit≤ tt), subst (λ (t : State). length t.queue ≤ 256) (sym e.1) (lit≤ tt))
entries_bounds bs accepted (suc n) text s e =
    let before = entries_bounds bs accepted n e.0 e.1 e.2 in
    let entry = e.3 in
    let line = entry.fed_line in
    let poured = entry_poured bs accepted (suc n) e.1 entry.poured_into line.gain line.lean line.step in
    let kept = dealt_keeps (key_length bs) entry.poured_into entry.keys_after.keys s entry.keys_after.dealt_keys in
    (omega (arith, before.0, poured, kept.0), omega (arith, kept.1, accepted.short_key))

-- entry n finds a ready well
pub next_ready : (bs : List ℕ) → Accepted bs → (n : ℕ) (text : List ℕ) (s : State) → 1 ≤ n → n ≤ entries bs → EntriesCleaned bs (n - 1) text s → Ready bs n s
next_ready bs accepted n text s some listed e =
    let before = entries_bounds bs accepted (n - 1) text s e in
    record {
      listed = (some, listed);
      room_held = omega (arith, before.1);
      room_poured = omega (arith, before.0, accepted.few_entries);
    }
