-- Keys dealt from a well: each is drawn, and its slip is loaded. The states are those of the well.
--   Enough      a key has 1 to 32 bytes, and the bits for it are held
--   after_key   the state after a key of k bytes: its bits are drawn, and the slip of this draw is loaded
--   NextKey     one key dealt, or, where there is not enough, key buffer and state as they were
--   Dealt       keys dealt in order, each of the oldest bits, until fewer are held than a key needs
--   key_lines   the lines of keys, in order
--   DealtOnto   the same, with the lines of the keys added to a text
use Rattle.std.specs.Prelude.{◌≡◌, ℕ, ◌*◌, ◌<◌, ◌≤◌, List, [], ◌∷◌, ◌++◌, length, Ok, Err, Result}
use Rattle.well.specs.declared.fault.WellFault.{WellFault}
use Rattle.well.specs.Packing.{packed}
use Rattle.well.specs.State.{State}
use Rattle.well.specs.Steps.{dealt, settled, next_slip}
use Rattle.clean.specs.Lines.{key_line}

abbrev pub Enough : State → ℕ → Type 0
Enough s k = (1 ≤ k) × (k ≤ 32) × (8 * k ≤ length s.queue)

abbrev pub after_key : State → ℕ → State
after_key s k = settled (dealt s k) (next_slip s k)

abbrev pub NextKey : State → List ℕ → Result (Unit {0}) WellFault → List ℕ → State → Type 0
NextKey s key (Ok _) key' s' = Enough s (length key) × (key' ≡ packed (length key) s.queue) × (s' ≡ after_key s (length key))
NextKey s key (Err _) key' s' = (Enough s (length key) → ⊥) × (key' ≡ key) × (s' ≡ s)

abbrev pub Dealt : ℕ → State → List (List ℕ) → State → Type 0
Dealt k s [] s' = (length s.queue < 8 * k) × (s' ≡ s)
Dealt k s (key ∷ keys) s' = (8 * k ≤ length s.queue) × (key ≡ packed k s.queue) × Dealt k (after_key s k) keys s'

abbrev pub key_lines : List (List ℕ) → List ℕ
key_lines [] = []
key_lines (key ∷ keys) = key_line key ++ key_lines keys

pub record DealtOnto (k : ℕ) (s : State) (text text' : List ℕ) (s' : State) : Type 0 where
  pub keys : List (List ℕ)
  pub dealt_keys : Dealt k s keys s'
  pub lines : text' ≡ text ++ key_lines keys
