-- Lanes, kept exits and their bits as the loops of the layer meet them. Assumes nothing.
use Rattle.std.proofs.Common.{◌≡◌, ℕ, ◌+◌, ◌-◌, ◌*◌, ◌<◌, ◌≤◌, Bool, cond, eqb, List, [], ◌∷◌, ◌++◌, length, get_or, drop, None, sym, refl, ap, ap₂, ◌∙◌, subst, mul-le-mul_left, mul-add, add-one, arith}
use Rattle.std.proofs.lemmas.List.{drop_more, drop_all}
use Rattle.std.proofs.lemmas.Bool.{eq-eqb, ne_eqb}
use Rattle.classes.specs.Recordings.{Sized, Codes, Recording, width, final, last}
use Rattle.classes.specs.Evenness.{Even}
use Rattle.extractors.specs.Lanes.{lane_from, lane, init, kept, blum}
use Rattle.extractors.specs.Bits.{gather}
use Rattle.extractors.specs.Rows.{Filed}
use Rattle.extractors.specs.Calls.{due, Written}
use Rattle.extractors.proofs.Judging.{unrefused}
use Rattle.blum.specs.Totals.{total, total_zero, total_le, total_up}
use Rattle.extractors.proofs.Gathers.{gather_next}
use Rattle.blum.specs.Lanes.{led_if, lanes_length}
use Rattle.blum.specs.Keeps.{part_short}
use Rattle.blum.specs.BlumEven.{kept_recording, blum_none}

-- THE LANE OF A STATE, FROM THE CODE AT i ON

module _ (x : List ℕ) (s i : ℕ) where
  pub visit : i + 1 < length x → get_or x i 0 ≡ s → lane s (drop i x) ≡ get_or x (i + 1) 0 ∷ lane s (drop (i + 1) x)
  visit h e =
      let p : i < length x = omega arith in
      ap (lane s) (drop_more x i 0 p) ∙ ap (lane_from s (get_or x i 0)) (drop_more x (i + 1) 0 h)
      ∙ ap (λ t. led_if t (get_or x (i + 1) 0) (lane_from s (get_or x (i + 1) 0) (drop (i + 1 + 1) x))) (eq-eqb (get_or x i 0) s e)
      ∙ ap (λ z. get_or x (i + 1) 0 ∷ lane s z) (sym (drop_more x (i + 1) 0 h))

  other_state : (a : ℕ) (r : List ℕ) → (a ≡ s → ⊥) → lane_from s a r ≡ lane s r
  other_state a [] e = refl
  other_state a (b ∷ r) e = ap (λ t. led_if t b (lane_from s b r)) (ne_eqb a s e)

  pub pass : i < length x → (get_or x i 0 ≡ s → ⊥) → lane s (drop i x) ≡ lane s (drop (i + 1) x)
  pass h e = ap (lane s) (drop_more x i 0 h) ∙ other_state (get_or x i 0) (drop (i + 1) x) e

  pub at_end : i < length x → length x ≤ i + 1 → lane s (drop i x) ≡ lane s (drop (i + 1) x)
  at_end h e = ap (lane s) (drop_more x i 0 h) ∙ ap (lane_from s (get_or x i 0)) (drop_all (i + 1) x e) ∙ sym (ap (lane s) (drop_all (i + 1) x e))

-- THE KEPT EXITS

last_at : (x : List ℕ) → last x ≡ get_or x (length x - 1) 0
last_at [] = refl
last_at (a ∷ y) = let e : length y ≡ length (a ∷ y) - 1 = omega arith in at a y ∙ ap (λ n. get_or (a ∷ y) n 0) e
  where
    at : (b : ℕ) (z : List ℕ) → final b z ≡ get_or (b ∷ z) (length z) 0
    at b [] = refl
    at b (c ∷ z) = at c z

-- what is kept of the row k of the lanes, where b is the last code
pub exits_kept : (m : ℕ) (x : List ℕ) (lanes : List (List ℕ)) → Filed m lane x lanes → (s k b : ℕ) (row exits : List ℕ) → s < m → k ≡ s → row ≡ get_or lanes k []
    → b ≡ get_or x (length x - 1) 0 → exits ≡ cond (eqb b s) row (init row) → exits ≡ kept s x
exits_kept m x lanes filed s k b row exits hs same at end is =
    let e : row ≡ lane s x = at ∙ ap (λ t. get_or lanes t []) same ∙ filed.each s hs in
    is ∙ ap₂ (λ d l. cond (eqb d s) l (init l)) (end ∙ sym (last_at x)) e

-- ROOM FOR THE EXITS OF ALL STATES

unfoldable pub exits_below : ℕ → List ℕ → ℕ
exits_below n x = total n (λ s. length (kept s x))

pub lanes_fit : (m : ℕ) (x : List ℕ) → Codes m x → total m (λ s. length (lane s x)) ≤ length x
lanes_fit m [] h = omega (arith, total_zero m)
lanes_fit m (a ∷ y) h = omega (arith, lanes_length m a y h.0 h.1)

module _ (m : ℕ) (x : List ℕ) (s : ℕ) (hx : Codes m x) (hs : s < m) where
  exits_fit : exits_below s x + length (kept s x) ≤ length x
  unfolding exits_below
  exits_fit =
      omega (
        arith,
        total_up s m (λ t. length (kept t x)) hs,
        total_le m (λ t. length (kept t x)) (λ t. length (lane t x)) (λ t. part_short (eqb (last x) t) (lane t x)),
        lanes_fit m x hx,
      )

  -- room for one state more
  pub room_next : (W at : ℕ) (exits : List ℕ) → exits ≡ kept s x → at ≤ W * exits_below s x → at + W * length exits ≤ W * length x
  room_next W at exits is h =
      let few : exits_below s x + length exits ≤ length x = omega (arith, exits_fit, ap length is) in
      omega (arith, mul-add W (exits_below s x) (length exits), mul-le-mul_left W few)

exits_next : (s : ℕ) (x : List ℕ) → exits_below (s + 1) x ≡ exits_below s x + length (kept s x)
unfolding exits_below
exits_next s x = ap (λ k. total k (λ t. length (kept t x))) (add-one s)

pub yield_next : (W s : ℕ) (x : List ℕ) (at k n : ℕ) → at ≤ W * exits_below s x → k ≤ W * n → n ≡ length (kept s x) → at + k ≤ W * exits_below (s + 1) x
yield_next W s x at k n h l e =
    let t : exits_below (s + 1) x ≡ exits_below s x + n = exits_next s x ∙ ap (λ z. exits_below s x + z) (sym e) in
    omega (arith, ap (λ z. W * z) t, mul-add W (exits_below s x) n)

-- nothing refuses the kept exits: only memory can be wanting
pub exits_due : (m : ℕ) (x exits : List ℕ) (s k : ℕ) → Sized m → Recording m x → exits ≡ kept s x → width m * length exits ≤ k → due m exits k ≡ None
exits_due m x exits s k sized rec e room = unrefused m exits k sized (subst (Recording m) (sym e) (kept_recording m x s rec)) room

-- THE BITS OF THE STATES SO FAR

-- no codes give no bits
pub none_written : (m : ℕ) (f : List ℕ → List Bool) (x scratch : List ℕ) → Sized m → Even m f → length x ≡ 0 → Written (blum m f x) scratch 0 scratch
none_written m f [] scratch sized even h = subst (λ s. Written s scratch 0 scratch) (sym (blum_none m f sized even)) (refl, refl)
none_written m f (a ∷ y) scratch sized even h = absurd (omega arith)

abbrev pub SoFar : ℕ → (List ℕ → List Bool) → List ℕ → ℕ → List ℕ → ℕ → List ℕ → Type 0
SoFar W f x s scratch at scratch' = (at ≤ W * exits_below s x) × Written (gather s (λ t. f (kept t x))) scratch at scratch'

-- the bits of a state more
pub add_state : (W : ℕ) (f : List ℕ → List Bool) (x : List ℕ) (s : ℕ) (scratch : List ℕ) (at k n : ℕ) (scratch'' : List ℕ) → at ≤ W * exits_below s x → k ≤ W * n → n ≡ length (kept s x)
    → Written (gather s (λ t. f (kept t x)) ++ f (kept s x)) scratch (at + k) scratch'' → SoFar W f x (s + 1) scratch (at + k) scratch''
add_state W f x s scratch at k n scratch'' h l e w = (
  yield_next W s x at k n h l e,
  subst (λ t. Written t scratch (at + k) scratch'') (sym (gather_next s (λ t. f (kept t x)))) w,
)
