-- The walk over rearranged lanes: from the same start it spends every lane and ends in the same code. Assumes nothing.
use Rattle.std.specs.Prelude.{◌≡◌, ℕ, zero, suc, ◌+◌, ◌<◌, ◌≤◌, Bool, true, false, cond, List, [], ◌∷◌, ◌++◌, length, ◌==◌, ◌≢◌, refl}
use Rattle.std.proofs.Common.{sym, ap, subst, ◌∙◌, append-nil, inl, inr, arith, length-append}
use Rattle.std.proofs.lemmas.Bool.Decides.{nat_tests}
use Rattle.std.proofs.lemmas.Bool.{cases_eq, eqb-true, cond-true, eq-eqb}
use Rattle.classes.specs.Counting.{one_if}
use Rattle.classes.specs.Recordings.{Codes, count, final}
use Rattle.extractors.specs.Lanes.{lane_from}
use Rattle.blum.specs.Totals.{total, total_same, total_add, total_one, total_some}
use Rattle.blum.specs.Lanes.{led_if, length_led_if, count_append, length_by_counts, empty, codes_lane, lanes_length, flow, arrivals, state_below}

-- new lanes for the recording that begins with a and goes on with y: each an arrangement of the old one, with the same last exit except at the last code
pub record Rearranged (m a : ℕ) (y : List ℕ) (L : ℕ → List ℕ) : Type 0 where
  pub codes : (s : ℕ) → Codes m (L s)
  pub counts : (s c : ℕ) → count c (L s) ≡ count c (lane_from s a y)
  pub lasts : (s : ℕ) → (final a y ≢ s) → final s (L s) ≡ final s (lane_from s a y)

-- the lanes without the first exit of a, r being the rest of its lane
abbrev without : (ℕ → List ℕ) → ℕ → List ℕ → ℕ → List ℕ
without L a r s = cond (a == s) r (L s)

abbrev next : List ℕ → (ℕ → List ℕ → List ℕ) → List ℕ
next [] go = []
next (b ∷ r) go = b ∷ go b r

-- the codes after a on the walk from a over the lanes L, the exits of each state in order, for at most n steps
abbrev pub walk : ℕ → ℕ → (ℕ → List ℕ) → List ℕ
walk zero a L = []
walk (suc n) a L = next (L a) (λ b r. walk n b (without L a r))

-- from a the codes y come, the last of them is e, and the lanes are L
pub record WalkedOver (m a e : ℕ) (L : ℕ → List ℕ) (y : List ℕ) : Type 0 where
  pub codes : Codes m y
  pub ends : final a y ≡ e
  pub lanes : (s : ℕ) → lane_from s a y ≡ L s

-- A WALK UNTIL A LANE IS SPENT

-- the walk y from a over L, and what it leaves of each lane
record Stopped (m a : ℕ) (L : ℕ → List ℕ) (y : List ℕ) : Type 0 where
  rest : ℕ → List ℕ
  codes : Codes m y
  cut : (s : ℕ) → L s ≡ lane_from s a y ++ rest s
  spent : rest (final a y) ≡ []

step : (m a b : ℕ) (r y : List ℕ) (L : ℕ → List ℕ) → L a ≡ b ∷ r → b < m → Stopped m b (without L a r) y → Stopped m a L (b ∷ y)
step m a b r y L e h w = record { rest = w.rest; codes = (h, w.codes); cut = λ s. at s (a == s) refl (w.cut s); spent = w.spent }
  where
    at : (s : ℕ) (t : Bool) → (a == s) ≡ t → cond t r (L s) ≡ lane_from s b y ++ w.rest s → L s ≡ led_if t b (lane_from s b y) ++ w.rest s
    at s true q k = ap L (sym (eqb-true a s q)) ∙ e ∙ ap (λ l. b ∷ l) k
    at s false q k = k

unfoldable held : ℕ → (ℕ → List ℕ) → ℕ
held m L = total m (λ t. length (L t))

without_held : (m a b : ℕ) (r : List ℕ) (L : ℕ → List ℕ) → L a ≡ b ∷ r → a < m → held m L ≡ 1 + held m (without L a r)
unfolding held
without_held m a b r L e h =
    omega (
      arith,
      total_same m (λ t. length (L t)) (λ t. one_if (a == t) + length (without L a r t)) (λ t. at t (a == t) refl),
      total_add m (λ t. one_if (a == t)) (λ t. length (without L a r t)),
      total_one m a 1 h,
    )
  where
    at : (s : ℕ) (t : Bool) → (a == s) ≡ t → length (L s) ≡ one_if t + length (cond t r (L s))
    at s true q = ap (λ u. length (L u)) (sym (eqb-true a s q)) ∙ ap length e ∙ omega arith
    at s false q = omega arith

codes_without : (m a : ℕ) (r : List ℕ) (L : ℕ → List ℕ) → Codes m r → ((s : ℕ) → Codes m (L s)) → (s : ℕ) → Codes m (without L a r s)
codes_without m a r L h k s = at (a == s)
  where
    at : (t : Bool) → Codes m (cond t r (L s))
    at true = h
    at false = k s

stop_by : (m a : ℕ) (L : ℕ → List ℕ) (go : ℕ → List ℕ → List ℕ) → ((s : ℕ) → Codes m (L s))
    → ((b : ℕ) (r : List ℕ) → L a ≡ b ∷ r → b < m → Codes m r → Stopped m b (without L a r) (go b r)) → Stopped m a L (next (L a) go)
stop_by m a L go low more = at (L a) refl (low a)
  where
    at : (l : List ℕ) → L a ≡ l → Codes m l → Stopped m a L (next l go)
    at [] e h = record { rest = L; codes = tt; cut = λ s. refl; spent = e }
    at (b ∷ r) e h = step m a b r (go b r) L e h.0 (more b r e h.0 h.1)

-- with a step for each exit held, the walk stops where a lane is spent
stops : (m n a : ℕ) (L : ℕ → List ℕ) → a < m → ((s : ℕ) → Codes m (L s)) → held m L ≤ n → Stopped m a L (walk n a L)
stops m zero a L h low few = record { rest = L; codes = tt; cut = λ s. refl; spent = at (L a) refl }
  where
    at : (l : List ℕ) → L a ≡ l → L a ≡ []
    at [] e = e
    at (b ∷ r) e = absurd (omega (arith, without_held m a b r L e h))
stops m (suc n) a L h low few = stop_by m a L (λ b r. walk n b (without L a r)) low
    (λ b r e hb hr. stops m n b (without L a r) hb (codes_without m a r L hr low) (omega (arith, without_held m a b r L e h)))

-- LAST EXITS

final_any : (c d : ℕ) (l : List ℕ) → 0 < length l → final c l ≡ final d l
final_any c d [] h = absurd (omega arith)
final_any c d (b ∷ l) h = refl

pub final_append : (d : ℕ) (k l : List ℕ) → 0 < length l → final d (k ++ l) ≡ final d l
final_append d [] l h = refl
final_append d (b ∷ k) l h = final_append b k l h ∙ final_any b d l h

count_final : (d : ℕ) (l : List ℕ) → 0 < length l → 0 < count (final d l) l
count_final d [] h = h
count_final d (b ∷ []) h = omega (arith, cond-true {A = ℕ} (b == b) 1 0 (eq-eqb b b refl))
count_final d (b ∷ (c ∷ l)) h = omega (arith, count_final b (c ∷ l) (omega arith))

final_led_if : (t : Bool) (b s : ℕ) (l : List ℕ) → 0 < length l → final s (led_if t b l) ≡ final s l
final_led_if true b s l h = final_any b s l h
final_led_if false b s l h = refl

some_led_if : (t : Bool) (b : ℕ) (l : List ℕ) → 0 < length l → 0 < length (led_if t b l)
some_led_if t b l h = omega (arith, length_led_if t b l)

-- what holds of the last code, and of each state whose last exit leads to a state of which it holds, holds of every state that has exits
by_last_exits : (P : ℕ → Type 0) (a : ℕ) (y : List ℕ) → P (final a y)
    → ((s : ℕ) → (final a y ≢ s) → 0 < length (lane_from s a y) → P (final s (lane_from s a y)) → P s)
    → P a × ((s : ℕ) → 0 < length (lane_from s a y) → P s)
by_last_exits P a [] end more = (end, λ s h. absurd (omega arith))
by_last_exits P a (b ∷ y) end more =
    here_or_later (by_last_exits P b y end (λ s ne h p. more s ne (some_led_if (a == s) b (lane_from s b y) h) (subst P (sym (final_led_if (a == s) b s (lane_from s b y) h)) p)))
  where
    at_a : P b → ((s : ℕ) → 0 < length (lane_from s b y) → P s) → P a
    at_a pb later = elim (cases_eq (final b y) a) [ inl e ↦ subst P e end | inr ne ↦ go ne (lane_from a b y) refl ]
      where
        go : (final b y ≢ a) → (l : List ℕ) → lane_from a b y ≡ l → P a
        go ne (c ∷ l) e = later a (omega (arith, ap length e))
        go ne [] e =
            let whole : lane_from a a (b ∷ y) ≡ b ∷ [] = ap (λ t. led_if t b (lane_from a b y)) (eq-eqb a a refl) ∙ ap (λ l. b ∷ l) e in
            more a ne (omega (arith, ap length whole)) (subst P (sym (ap (final a) whole)) pb)

    at : P a → ((s : ℕ) → 0 < length (lane_from s b y) → P s) → (s : ℕ) (t : Bool) → (a == s) ≡ t → 0 < length (led_if t b (lane_from s b y)) → P s
    at pa later s true q h = subst P (eqb-true a s q) pa
    at pa later s false q h = later s h

    here_or_later : P b × ((s : ℕ) → 0 < length (lane_from s b y) → P s) → P a × ((s : ℕ) → 0 < length (lane_from s a (b ∷ y)) → P s)
    here_or_later ih = let pa = at_a ih.0 ih.1 in (pa, λ s h. at pa ih.1 s (a == s) refl h)

-- NOTHING IS LEFT

one_same : (a b : ℕ) → 0 < one_if (a == b) → a ≡ b
one_same a b h = grind (arith, nat_tests)

one_self : (a : ℕ) → one_if (a == a) ≡ 1
one_self a = cond-true {A = ℕ} (a == a) 1 0 (eq-eqb a a refl)

module _ (m a : ℕ) (y : List ℕ) (L : ℕ → List ℕ) (ha : a < m) (hy : Codes m y) (re : Rearranged m a y L) where
  same_length : (s : ℕ) → length (L s) ≡ length (lane_from s a y)
  same_length s =
      sym (length_by_counts m (L s) (re.codes s)) ∙ total_same m (λ c. count c (L s)) (λ c. count c (lane_from s a y)) (re.counts s)
      ∙ length_by_counts m (lane_from s a y) (codes_lane m a y s hy)

  same_held : held m L ≡ length y
  unfolding held
  same_held = total_same m (λ t. length (L t)) (λ t. length (lane_from t a y)) same_length ∙ lanes_length m a y ha hy

module _ (m a : ℕ) (y z : List ℕ) (L : ℕ → List ℕ) (ha : a < m) (hy : Codes m y) (re : Rearranged m a y L) (w : Stopped m a L z) where
  -- what is left comes in as often as it goes out, but for the two ends
  left_flow : (s : ℕ) → length (w.rest s) + one_if (final a y == s) ≡ total m (λ t. count s (w.rest t)) + one_if (final a z == s)
  left_flow s =
      omega (
        arith,
        flow a y s,
        flow a z s,
        arrivals m a y s ha hy,
        arrivals m a z s ha w.codes,
        same_length m a y L ha hy re s,
        ap length (w.cut s),
        length-append (lane_from s a z) (w.rest s),
        total_same m (λ t. count s (lane_from t a y)) (λ t. count s (lane_from t a z) + count s (w.rest t))
            (λ t. sym (re.counts t s) ∙ ap (count s) (w.cut t) ∙ count_append s (lane_from t a z) (w.rest t)),
        total_add m (λ t. count s (lane_from t a z)) (λ t. count s (w.rest t)),
      )

  same_end : final a z ≡ final a y
  same_end =
      let e = final a z in
      sym (one_same (final a y) e (omega (arith, left_flow e, ap length w.spent, one_self e)))

  left_even : (s : ℕ) → length (w.rest s) ≡ total m (λ t. count s (w.rest t))
  left_even s = omega (arith, left_flow s, ap (λ e. one_if (e == s)) same_end)

  -- a state whose last exit leads to a spent lane is spent: else its last exit would still arrive there
  closed : (s : ℕ) → s < m → (final a y ≢ s) → w.rest (final s (lane_from s a y)) ≡ [] → w.rest s ≡ []
  closed s hs ne none = at (w.rest s) refl
    where
      at : (l : List ℕ) → w.rest s ≡ l → w.rest s ≡ []
      at [] e = e
      at (b ∷ l) e =
          let some : 0 < length (w.rest s) = omega (arith, ap length e) in
          let last : final s (w.rest s) ≡ final s (lane_from s a y) = sym (final_append s (lane_from s a z) (w.rest s) some) ∙ ap (final s) (sym (w.cut s)) ∙ re.lasts s ne in
          let c = final s (lane_from s a y) in
          absurd (omega (arith, ap length none, left_even c, total_some m (λ t. count c (w.rest t)) s hs, subst (λ d. 0 < count d (w.rest s)) last (count_final s (w.rest s) some)))

  nothing_left : (s : ℕ) → w.rest s ≡ []
  nothing_left s = at (lane_from s a y) refl
    where
      at : (l : List ℕ) → lane_from s a y ≡ l → w.rest s ≡ []
      at [] e = empty (w.rest s) (omega (arith, ap length e, same_length m a y L ha hy re s, ap length (w.cut s), length-append (lane_from s a z) (w.rest s)))
      at (b ∷ l) e =
          (by_last_exits (λ u. w.rest u ≡ []) a y (subst (λ u. w.rest u ≡ []) same_end w.spent)
          (λ u ne some p. closed u (state_below m a y u ha hy some) ne p)).1 s (omega (arith, ap length e))

  whole : WalkedOver m a (final a y) L z
  whole = record {
    codes = w.codes;
    ends = same_end;
    lanes = λ s. sym (w.cut s ∙ ap (λ l. lane_from s a z ++ l) (nothing_left s) ∙ append-nil (lane_from s a z));
  }

-- THE WALK OVER REARRANGED LANES IS A RECORDING WITH THESE LANES AND THE SAME LAST CODE

pub rewalk : (m a : ℕ) (y : List ℕ) (L : ℕ → List ℕ) → a < m → Codes m y → Rearranged m a y L → WalkedOver m a (final a y) L (walk (length y) a L)
rewalk m a y L ha hy re = whole m a y (walk (length y) a L) L ha hy re (stops m (length y) a L ha re.codes (omega (arith, same_held m a y L ha hy re)))

-- a walk over rearranged lanes is as long as the recording
pub rewalk_length : (m a : ℕ) (y z : List ℕ) (L : ℕ → List ℕ) → a < m → Codes m y → Rearranged m a y L → WalkedOver m a (final a y) L z → length z ≡ length y
rewalk_length m a y z L ha hy re w =
    sym (lanes_length m a z ha w.codes)
    ∙ total_same m (λ s. length (lane_from s a z)) (λ s. length (lane_from s a y)) (λ s. ap length (w.lanes s) ∙ same_length m a y L ha hy re s)
    ∙ lanes_length m a y ha hy
