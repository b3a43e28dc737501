-- A feed: the front of the tray stands for the pile's bits, and the step that they make. Assumes nothing.
use Rattle.std.proofs.Common.{◌≡◌, ℕ, ◌≤◌, Bool, true, false, List, [], ◌∷◌, ◌++◌, length, take, ℤ, None, Option, sym, refl, ap, ◌∙◌, subst, ap₂, inr, arith}
use Rattle.std.proofs.lemmas.List.{take_at, length-take-le}
use Rattle.extractors.specs.Bits.{bytes}
use Rattle.extractors.specs.Calls.{Written, due}
use Rattle.extractors.specs.Piles.{Pile, Lawful, bits}
use Rattle.extractors.proofs.Writing.{length_bytes, yield_fits}
use Rattle.well.specs.Lean.{flags, lean}
use Rattle.well.specs.State.{State}
use Rattle.well.specs.Steps.{Call.feed, Outcome.fed, First, Step, no_room, filled}

flags_bytes : (s : List Bool) → flags (bytes s) ≡ s
flags_bytes [] = refl
flags_bytes (true ∷ s) = ap (λ z. true ∷ z) (flags_bytes s)
flags_bytes (false ∷ s) = ap (λ z. false ∷ z) (flags_bytes s)

-- the front of the tray stands for the bits
pub flags_front : (s : List Bool) (rest tray : List ℕ) (y : ℕ) → tray ≡ bytes s ++ rest → y ≡ length s → flags (take y tray) ≡ s
flags_front s rest tray y t e =
    ap (λ z. flags (take y z)) t ∙ ap flags (take_at (bytes s) rest y (length_bytes s ∙ sym e)) ∙ flags_bytes s

-- the bits that an extractor wrote are within the tray
pub front_length : (s : List Bool) (tray tray' : List ℕ) (y : ℕ) → Written s tray y tray' → length tray' ≡ length tray → (y ≤ length tray') × (length (take y tray') ≡ y)
front_length s tray tray' y w kept =
    let fits : y ≤ length tray' = omega (arith, yield_fits s tray tray' y w kept) in
    (fits, length-take-le y tray' fits)

first_none : {F : Type 0} (o : Option F) (R : F → Type 0) (A : Type 0) → o ≡ None → A → First o R A
first_none o R A none a = subst (λ v. First v R A) (sym none) a

pub step_fed : (s : State) (p : Pile) → Lawful p → (m : ℕ) (x : List ℕ) (k : ℕ) → due m x k ≡ None
    → (y : ℕ) → y ≡ length (bits p m x) → no_room s y ≡ None → (z : ℤ) → z ≡ lean (bits p m x) → (s' : State) → s' ≡ filled s (bits p m x)
    → Step s (feed p m x k) (fed y z) s'
step_fed s p lawful m x k given y yield takes z leans s' after =
    (lawful, first_none _ _ _ given (inr (first_none _ _ _ (subst (λ n. no_room s n ≡ None) yield takes) (ap₂ fed yield leans, after))))
