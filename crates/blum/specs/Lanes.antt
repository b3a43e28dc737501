-- Lanes of a recording that begins with a code and goes on with a list: their codes, lengths and counts, and what decides a recording. Assumes nothing.
use Rattle.std.specs.Prelude.{◌≡◌, ℕ, suc, ◌+◌, ◌<◌, ◌≤◌, Bool, true, false, cond, List, [], ◌∷◌, ◌++◌, length, ◌==◌, refl}
use Rattle.std.proofs.Common.{sym, ap, ap₂, subst, ◌∙◌, arith}
use Rattle.std.proofs.lemmas.Bool.{eqb-true, eq-eqb}
use Rattle.classes.specs.Counting.{one_if}
use Rattle.classes.specs.Recordings.{Codes, count, final, steps_from}
use Rattle.classes.proofs.Counts.{add_up_append}
use Rattle.extractors.specs.Lanes.{lane_from}
use Rattle.blum.specs.Totals.{total, total_zero, total_same, total_add, total_one}

-- COUNTS AND LENGTHS

-- b before the list l, where the test t passed
abbrev pub led_if : Bool → ℕ → List ℕ → List ℕ
led_if t b l = cond t (b ∷ l) l

pub length_led_if : (t : Bool) (b : ℕ) (l : List ℕ) → length (led_if t b l) ≡ one_if t + length l
length_led_if true b l = omega arith
length_led_if false b l = omega arith

count_led_if : (t : Bool) (b : ℕ) (l : List ℕ) (c : ℕ) → count c (led_if t b l) ≡ cond t (one_if (b == c)) 0 + count c l
count_led_if true b l c = refl
count_led_if false b l c = omega arith

codes_led_if : (m : ℕ) (t : Bool) (b : ℕ) (l : List ℕ) → b < m → Codes m l → Codes m (led_if t b l)
codes_led_if m true b l h k = (h, k)
codes_led_if m false b l h k = k

pub count_append : (c : ℕ) (k l : List ℕ) → count c (k ++ l) ≡ count c k + count c l
count_append c k l = add_up_append (λ b. one_if (b == c)) k l

-- a list of codes is as long as its counts add up to
pub length_by_counts : (m : ℕ) (l : List ℕ) → Codes m l → total m (λ c. count c l) ≡ length l
length_by_counts m [] h = total_zero m
length_by_counts m (b ∷ l) h = omega (arith, total_add m (λ c. one_if (b == c)) (λ c. count c l), total_one m b 1 h.0, length_by_counts m l h.1)

pub empty : (l : List ℕ) → length l ≡ 0 → l ≡ []
empty [] h = refl
empty (b ∷ l) h = absurd (omega arith)

-- LANES

pub codes_lane : (m a : ℕ) (y : List ℕ) (s : ℕ) → Codes m y → Codes m (lane_from s a y)
codes_lane m a [] s h = tt
codes_lane m a (b ∷ y) s h = codes_led_if m (a == s) b (lane_from s b y) h.0 (codes_lane m b y s h.1)

pub lane_short : (s a : ℕ) (y : List ℕ) → length (lane_from s a y) ≤ length y
lane_short s a [] = omega arith
lane_short s a (b ∷ y) = at (a == s) (lane_short s b y)
  where
    at : (t : Bool) → length (lane_from s b y) ≤ length y → length (led_if t b (lane_from s b y)) ≤ suc (length y)
    at true h = omega arith
    at false h = omega arith

-- the lanes of all states hold as many codes as come after the first
pub lanes_length : (m a : ℕ) (y : List ℕ) → a < m → Codes m y → total m (λ s. length (lane_from s a y)) ≡ length y
lanes_length m a [] h k = total_zero m
lanes_length m a (b ∷ y) h k =
    omega (
      arith,
      total_same m (λ s. length (lane_from s a (b ∷ y))) (λ s. one_if (a == s) + length (lane_from s b y)) (λ s. length_led_if (a == s) b (lane_from s b y)),
      total_add m (λ s. one_if (a == s)) (λ s. length (lane_from s b y)),
      total_one m a 1 h,
      lanes_length m b y k.0 k.1,
    )

-- steps from a state are the counts of its lane
pub steps_lane : (s c a : ℕ) (y : List ℕ) → steps_from s c a y ≡ count c (lane_from s a y)
steps_lane s c a [] = refl
steps_lane s c a (b ∷ y) = omega (arith, steps_lane s c b y, count_led_if (a == s) b (lane_from s b y) c)

-- what leaves a state and what arrives there differ at the two ends only
pub flow : (a : ℕ) (y : List ℕ) (s : ℕ) → length (lane_from s a y) + one_if (final a y == s) ≡ count s y + one_if (a == s)
flow a [] s = omega arith
flow a (b ∷ y) s = omega (arith, flow b y s, length_led_if (a == s) b (lane_from s b y))

pub arrivals : (m a : ℕ) (y : List ℕ) (s : ℕ) → a < m → Codes m y → total m (λ t. count s (lane_from t a y)) ≡ count s y
arrivals m a [] s h k = total_zero m
arrivals m a (b ∷ y) s h k =
    omega (
      arith,
      total_same m (λ t. count s (lane_from t a (b ∷ y))) (λ t. cond (a == t) (one_if (b == s)) 0 + count s (lane_from t b y)) (λ t. count_led_if (a == t) b (lane_from t b y) s),
      total_add m (λ t. cond (a == t) (one_if (b == s)) 0) (λ t. count s (lane_from t b y)),
      total_one m a (one_if (b == s)) h,
      arrivals m b y s k.0 k.1,
    )

-- a state that has exits is a code
pub state_below : (m a : ℕ) (y : List ℕ) (s : ℕ) → a < m → Codes m y → 0 < length (lane_from s a y) → s < m
state_below m a [] s ha hy some = absurd (omega arith)
state_below m a (b ∷ y) s ha hy some = at (state_below m b y s hy.0 hy.1) (a == s) refl some
  where
    at : (0 < length (lane_from s b y) → s < m) → (t : Bool) → (a == s) ≡ t → 0 < length (led_if t b (lane_from s b y)) → s < m
    at later true q h = subst (λ u. u < m) (eqb-true a s q) ha
    at later false q h = later h

-- A RECORDING IS DECIDED BY ITS FIRST CODE AND ITS LANES

lane_here : (a b : ℕ) (y : List ℕ) → lane_from a a (b ∷ y) ≡ b ∷ lane_from a b y
lane_here a b y = ap (λ t. led_if t b (lane_from a b y)) (eq-eqb a a refl)

lanes_decide : (a : ℕ) (y z : List ℕ) → ((s : ℕ) → lane_from s a y ≡ lane_from s a z) → y ≡ z
lanes_decide a [] [] h = refl
lanes_decide a [] (c ∷ z) h = absurd (omega (arith, ap length (h a), ap length (lane_here a c z)))
lanes_decide a (b ∷ y) [] h = absurd (omega (arith, ap length (h a), ap length (lane_here a b y)))
lanes_decide a (b ∷ y) (c ∷ z) h = ap₂ (λ d l. d ∷ l) first (lanes_decide b y z (λ s. at s (a == s) refl (h s)))
  where
    first : b ≡ c
    first = let e : b ∷ lane_from a b y ≡ c ∷ lane_from a c z = sym (lane_here a b y) ∙ h a ∙ lane_here a c z in cc

    at : (s : ℕ) (t : Bool) → (a == s) ≡ t → led_if t b (lane_from s b y) ≡ led_if t c (lane_from s c z) → lane_from s b y ≡ lane_from s b z
    at s true q e = let k : lane_from s b y ≡ lane_from s c z = cc in k ∙ ap (λ d. lane_from s d z) (sym first)
    at s false q e = e ∙ ap (λ d. lane_from s d z) (sym first)

-- the lanes of the codes below the size are enough
pub codes_decide : (m a : ℕ) (y z : List ℕ) → a < m → Codes m y → Codes m z → ((s : ℕ) → s < m → lane_from s a y ≡ lane_from s a z) → y ≡ z
codes_decide m a y z ha hy hz h = lanes_decide a y z (λ s. at s (lane_from s a y) (lane_from s a z) refl refl)
  where
    at : (s : ℕ) (k l : List ℕ) → lane_from s a y ≡ k → lane_from s a z ≡ l → lane_from s a y ≡ lane_from s a z
    at s [] [] p q = p ∙ sym q
    at s (b ∷ k) l p q = h s (state_below m a y s ha hy (omega (arith, ap length p)))
    at s [] (b ∷ l) p q = h s (state_below m a z s ha hz (omega (arith, ap length q)))
