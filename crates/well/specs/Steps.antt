-- The calls on a well as a relation between state, call, outcome and next state.
--   Call          what a call is given
--   Outcome       what it answers
--   no_room       why the state refuses a feed of some bits, if it does
--   no_key        why a draw is refused, if it is
--   not_taken     why a load is refused, if it is
--   Step          one call: refused in the order of the rules with the state kept, or answered
--   of_feed, of_draw, of_load   the outcome that an answer stands for
--   KeyKept       a refused draw leaves the key buffer as it was
--   HandedBack    a refused load hands the slip back as it was
use Rattle.std.specs.Prelude.{◌≡◌, ℕ, ◌+◌, ◌-◌, ◌*◌, Bool, cond, ◌⊎◌, List, ◌++◌, length, drop, ℤ, Some, None, Ok, Err, Option, Result, ◌==◌, nat_lt}
use Rattle.extractors.specs.declared.fault.ExtractorFault.TheVariants.{Memory}
use Rattle.extractors.specs.Calls.{due}
use Rattle.extractors.specs.Piles.{Pile, Lawful, bits}
use Rattle.well.specs.declared.fault.WellFault.{WellFault}
use Rattle.well.specs.declared.fault.WellFault.TheVariants.{Extractor, KeyLength, Poured, Full, Short, Mark, Excess}
use Rattle.well.specs.declared.slip.Slip.{Slip}
use Rattle.well.specs.declared.slip.Returned.{Returned}
use Rattle.well.specs.Lean.{lean}
use Rattle.well.specs.Packing.{packed}
use Rattle.well.specs.State.{State}

-- a feed is given a pile, a size, a recording and a tray of so many bytes; a draw a key buffer of k bytes; a load a slip
pub data Call : Type 0 where
  feed : Pile → ℕ → List ℕ → ℕ → Call
  draw : ℕ → Call
  load : Slip → Call

pub data Outcome : Type 0 where
  refused : WellFault → Outcome
  fed : ℕ → ℤ → Outcome
  drawn : List ℕ → Slip → Outcome
  spent : Outcome

abbrev pub no_room : State → ℕ → Option WellFault
no_room s y =
    cond (nat_lt 16777216 (s.poured + y)) (Some (Poured y))
    (cond (nat_lt 16640 (length s.queue + y)) (Some (Full y))
    None)

abbrev pub no_key : State → ℕ → Option WellFault
no_key s k =
    cond (k == 0) (Some (KeyLength k))
    (cond (nat_lt 32 k) (Some (KeyLength k))
    (cond (nat_lt (length s.queue) (8 * k)) (Some (Short (length s.queue)))
    None))

abbrev pub not_taken : State → Slip → Option WellFault
not_taken s p =
    cond (p.mark == s.mark)
    (cond (nat_lt s.out p.bits) (Some (Excess p.bits)) None)
    (Some (Mark p.mark))

-- the state after an accepted call
abbrev pub filled : State → List Bool → State
filled s b = record { mark = s.mark; queue = s.queue ++ b; poured = s.poured + length b; loaded = s.loaded; out = s.out; draws = s.draws }

abbrev pub dealt : State → ℕ → State
dealt s k = record { mark = s.mark; queue = drop (8 * k) s.queue; poured = s.poured; loaded = s.loaded; out = s.out + 8 * k; draws = s.draws + 1 }

abbrev pub settled : State → Slip → State
settled s p = record { mark = s.mark; queue = s.queue; poured = s.poured; loaded = s.loaded + p.bits; out = s.out - p.bits; draws = s.draws }

-- the slip of the next draw of k bytes
abbrev pub next_slip : State → ℕ → Slip
next_slip s k = record { mark = s.mark; number = s.draws + 1; bits = 8 * k }

-- where a rule refuses, R of its fault, else A
abbrev pub First : {F : Type 0} → Option F → (F → Type 0) → Type 0 → Type 0
First (Some f) R A = R f
First None R A = A

-- refused by f, with the state kept
abbrev pub Kept : State → Outcome → State → WellFault → Type 0
Kept s o s' f = (o ≡ refused f) × (s' ≡ s)

-- the pile of a feed is lawful; it is refused by its input, or for want of memory, or by the state, or it is answered
abbrev pub Step : State → Call → Outcome → State → Type 0
Step s (feed p m x k) o s' =
    Lawful p
    × First (due m x k) (λ e. Kept s o s' (Extractor e))
    (Kept s o s' (Extractor Memory)
    ⊎ First (no_room s (length (bits p m x))) (Kept s o s') ((o ≡ fed (length (bits p m x)) (lean (bits p m x))) × (s' ≡ filled s (bits p m x))))
Step s (draw k) o s' = First (no_key s k) (Kept s o s') ((o ≡ drawn (packed k s.queue) (next_slip s k)) × (s' ≡ dealt s k))
Step s (load p) o s' = First (not_taken s p) (Kept s o s') ((o ≡ spent) × (s' ≡ settled s p))

abbrev pub of_feed : Result (ℕ × ℤ) WellFault → Outcome
of_feed (Ok a) = fed a.0 a.1
of_feed (Err f) = refused f

abbrev pub of_draw : List ℕ → Result Slip WellFault → Outcome
of_draw key (Ok p) = drawn key p
of_draw key (Err f) = refused f

abbrev pub of_load : Result (Unit {0}) Returned → Outcome
of_load (Ok u) = spent
of_load (Err e) = refused e.fault

abbrev pub KeyKept : List ℕ → Result Slip WellFault → List ℕ → Type 0
KeyKept key (Ok p) key' = Unit {0}
KeyKept key (Err f) key' = key' ≡ key

abbrev pub HandedBack : Slip → Result (Unit {0}) Returned → Type 0
HandedBack p (Ok u) = Unit {0}
HandedBack p (Err e) = e.slip ≡ p
