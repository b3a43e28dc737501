-- The turn of the scan over symbols, from the last code to the first: the counts, the arrangements and the rank with one code
-- more in front. Assumes nothing.
use Rattle.std.specs.Prelude.{◌≡◌, ℕ, zero, suc, ◌+◌, ◌-◌, ◌*◌, ◌/◌, ◌^◌, ◌<◌, ◌≤◌, Bool, true, false, cond, List, [], ◌∷◌, length, take, drop, set, sum, ◌==◌, nat_eq, slice_index, slice_index_or, slice_set, refl}
use Rattle.std.proofs.Common.{sym, ◌∙◌, ap, ap₂, subst, ⊎_elim, zero-add, add_comm, mul_comm, mul-div_cancel, mul-le-mul_left, mul-le-mul_right, add-one, arith, length-drop, length-set, get_or-set_same, get_or-set_other}
use Rattle.std.proofs.ByRecursion.{All-drop, All-get_or}
use Rattle.std.proofs.lemmas.List.{drop_more}
use Rattle.std.proofs.lemmas.List.Sums.{sum_by_more, sum_by-set}
use Rattle.std.proofs.lemmas.Bool.{cases_lt, cases_eq, eq-eqb, ne_eqb}
use Rattle.classes.specs.Counting.{one_if, tally}
use Rattle.classes.specs.Recordings.{Codes, count}
use Rattle.classes.specs.Classes.{words, same_counts}
use Rattle.classes.proofs.Counts.{tally_le_length}
use Rattle.ranking.specs.Factorials.{factorial, count_factorial, Multinomial}
use Rattle.ranking.specs.Ranks.{before, rank, class_size}
use Rattle.ranking.specs.Scans.{sum_below, sum_same, sum_mul, mul_sum, sum_mono, tally_same, size_tally, rank_le_size, same_step, begins, rank_step}
use Rattle.ranking.specs.Arrangements.{multinomial, begin_with, arrangements_under, arrangements_fit, factorial_mono}

-- COUNTS OF A BLOCK

sum_flag : (m d : ℕ) (f : ℕ → ℕ) → d < m → sum_below m (λ c. one_if (d == c) + f c) ≡ suc (sum_below m f)
sum_flag zero d f h = absurd (omega arith)
sum_flag (suc m) d f h =
    ⊎_elim
    (λ (l : d < m). omega (arith, sum_flag m d f l, ap one_if (ne_eqb d m (λ e. omega arith))))
    (λ (l : m ≤ d). let e : d ≡ m = omega arith in
    let k : sum_below m (λ c. one_if (d == c) + f c) ≡ sum_below m f = sum_same _ f m (λ c j. ap (λ x. x + f c) (ap one_if (ne_eqb d c (λ e. omega arith))) ∙ zero-add (f c)) in
    omega (arith, k, ap one_if (eq-eqb d m e)))
    (cases_lt d m)

sum_nothing : (m : ℕ) → sum_below m (λ c. 0) ≡ 0
sum_nothing zero = refl
sum_nothing (suc m) = omega (arith, sum_nothing m)

total_count : (m : ℕ) (x : List ℕ) → Codes m x → sum_below m (λ c. count c x) ≡ length x
total_count m [] h = sum_nothing m
total_count m (d ∷ x) h = sum_flag m d (λ c. count c x) h.0 ∙ ap suc (total_count m x h.1)

pub class_multinomial : (m : ℕ) (x : List ℕ) → Codes m x → Multinomial m x (class_size m x)
class_multinomial m x h = ap (λ k. k * count_factorial m x) (size_tally m x) ∙ multinomial m (length x) (λ c. count c x) (total_count m x h)

pub symbol_size_fits : (m : ℕ) (x : List ℕ) → Codes m x → length x ≤ 20 → class_size m x ≤ 2432902008176640000
symbol_size_fits m x codes h = omega (arith, size_tally m x, arrangements_under m (length x) (λ c. count c x) (total_count m x codes), factorial_mono (length x) 20 h)

-- ONE CODE MORE IN FRONT

-- how many codes of d and x are smaller than d
abbrev below : ℕ → List ℕ → ℕ
below d x = sum_below d (λ c. count c (d ∷ x))

module _ (m d : ℕ) (x : List ℕ) (b : d < m) (codes : Codes m x) where
  total : sum_below m (λ c. count c (d ∷ x)) ≡ suc (length x)
  total = total_count m (d ∷ x) (b, codes)

  begins_mul : (c : ℕ) → c < m → class_size m (d ∷ x) * count c (d ∷ x) ≡ begins m (d ∷ x) (length x) c * suc (length x)
  begins_mul c h = ap (λ k. k * count c (d ∷ x)) (size_tally m (d ∷ x)) ∙ begin_with m (length x) c (λ e. count e (d ∷ x)) total h

  begins_self : begins m (d ∷ x) (length x) d ≡ class_size m x
  begins_self = tally_same _ _ (λ l. same_step m d x l) (words m (length x)) ∙ sym (size_tally m x)

  own : 0 < count d (d ∷ x)
  own = omega (arith, ap one_if (eq-eqb d d refl))

  size_turn : class_size m x * suc (length x) / count d (d ∷ x) ≡ class_size m (d ∷ x)
  size_turn =
      ap (λ k. k / count d (d ∷ x)) (ap (λ k. k * suc (length x)) (sym begins_self) ∙ sym (begins_mul d b)) ∙ mul-div_cancel (class_size m (d ∷ x)) own

  below_mul : class_size m (d ∷ x) * below d x ≡ sum_below d (begins m (d ∷ x) (length x)) * suc (length x)
  below_mul =
      mul_sum (λ c. count c (d ∷ x)) (class_size m (d ∷ x)) d
      ∙ sum_same (λ c. class_size m (d ∷ x) * count c (d ∷ x)) (λ c. begins m (d ∷ x) (length x) c * suc (length x)) d (λ c h. begins_mul c (omega arith))
      ∙ sym (sum_mul (begins m (d ∷ x) (length x)) (suc (length x)) d)

  rank_turn : class_size m (d ∷ x) * below d x / suc (length x) + rank m x ≡ rank m (d ∷ x)
  rank_turn =
      ap (λ k. k + rank m x) (ap (λ k. k / suc (length x)) below_mul ∙ mul-div_cancel (sum_below d (begins m (d ∷ x) (length x))) (omega arith))
      ∙ sym (rank_step m d x b)

  -- what the machine's numbers hold
  size_fits : suc (length x) ≤ 20 → class_size m x * suc (length x) ≤ 2432902008176640000
  size_fits h =
      let under : class_size m x ≤ factorial (length x) = omega (arith, size_tally m x, arrangements_under m (length x) (λ c. count c x) (total_count m x codes)) in
      omega (arith, mul-le-mul_right (suc (length x)) under, mul_comm (factorial (length x)) (suc (length x)), factorial_mono (suc (length x)) 20 h)

  below_fits : m ≤ 16 → suc (length x) ≤ 20 → class_size m (d ∷ x) * below d x < 2 ^ 64
  below_fits few h =
      let least : below d x ≤ suc (length x) = omega (arith, sum_mono (λ c. count c (d ∷ x)) d m (omega arith), total) in
      let wide : class_size m (d ∷ x) * suc (length x) < 2 ^ 64 =
      subst (λ k. k * suc (length x) < 2 ^ 64) (sym (size_tally m (d ∷ x))) (arrangements_fit m (suc (length x)) (λ c. count c (d ∷ x)) few h total) in
      omega (arith, mul-le-mul_left (class_size m (d ∷ x)) least)

  rank_fits : suc (length x) ≤ 20 → rank m (d ∷ x) ≤ 2432902008176640000
  rank_fits h = omega (arith, rank_le_size m (d ∷ x), symbol_size_fits m (d ∷ x) (b, codes) h)

-- COUNTS IN AN ARRAY

-- one code more is counted
counted : (cs : List ℕ) (x : List ℕ) (d : ℕ) → d < length cs → ((c : ℕ) → c < length cs → slice_index cs c ≡ count c x)
    → (c : ℕ) → c < length cs → slice_index (slice_set cs d (slice_index cs d + 1)) c ≡ count c (d ∷ x)
counted cs x d h inv c l =
    ⊎_elim
    (λ (e : c ≡ d). ap (λ k. slice_index (slice_set cs d (slice_index cs d + 1)) k) e ∙ get_or-set_same cs d (slice_index cs d + 1) 0 h
    ∙ omega (arith, inv d h, ap one_if (eq-eqb d d refl)) ∙ ap (λ k. count k (d ∷ x)) (sym e))
    (λ ne. get_or-set_other cs d c (slice_index cs d + 1) 0 ne ∙ omega (arith, inv c l, ap one_if (ne_eqb d c (λ e. ne (sym e)))))
    (cases_eq c d)

-- the front of an array that lists f adds up to the sum of f
sum_front : (cs : List ℕ) (f : ℕ → ℕ) (k : ℕ) → k ≤ length cs → ((c : ℕ) → c < k → slice_index cs c ≡ f c) → sum (take k cs) ≡ sum_below k f
sum_front cs f zero h e = refl
sum_front cs f (suc k) h e =
    ap (λ j. sum (take j cs)) (sym (add-one k)) ∙ sum_by_more (λ c. c) cs k 0 h ∙ ap₂ ◌+◌ (sum_front cs f k (omega arith) (λ c l. e c (omega arith))) (e k (omega arith))

-- THE TURN: the code d before x, where cs has the counts of x

module _ (m d : ℕ) (x cs : List ℕ) (size rest : ℕ) (b : d < m) (codes : Codes m x) (few : m ≤ 16) (wide : length cs ≡ 16) (short : suc (length x) ≤ 20)
    (inv : (c : ℕ) → c < length cs → slice_index cs c ≡ count c x) (er : rest ≡ length x) (es : size ≡ class_size m x) where
  own_is : slice_index_or cs d 0 + 1 ≡ count d (d ∷ x)
  own_is = omega (arith, inv d (omega arith), ap one_if (eq-eqb d d refl))

  next : rest + 1 ≡ suc (length x)
  next = omega arith

  pub turn_counts : (c : ℕ) → c < length cs → slice_index (slice_set cs d (slice_index cs d + 1)) c ≡ count c (d ∷ x)
  turn_counts = counted cs x d (omega arith) inv

  pub turn_size_fits : size * (rest + 1) ≤ 2432902008176640000
  turn_size_fits = subst (λ k. k ≤ 2432902008176640000) (sym (ap₂ ◌*◌ es next)) (size_fits m d x b codes short)

  pub turn_size : size * (rest + 1) / (slice_index cs d + 1) ≡ class_size m (d ∷ x)
  turn_size = ap₂ ◌/◌ (ap₂ ◌*◌ es next) own_is ∙ size_turn m d x b codes

  turn_below : length (slice_set cs d (slice_index cs d + 1)) ≡ 16 → sum (take d (slice_set cs d (slice_index cs d + 1))) ≡ below d x
  turn_below l = sum_front (slice_set cs d (slice_index cs d + 1)) (λ c. count c (d ∷ x)) d (omega arith) (λ c h. turn_counts c (omega arith))

  pub turn_smaller : length (slice_set cs d (slice_index cs d + 1)) ≡ 16 → sum (take d (slice_set cs d (slice_index cs d + 1))) ≤ suc (length x)
  turn_smaller l = omega (arith, turn_below l, sum_mono (λ c. count c (d ∷ x)) d m (omega arith), total_count m (d ∷ x) (b, codes))

  pub turn_rank_fits : length (slice_set cs d (slice_index cs d + 1)) ≡ 16 → class_size m (d ∷ x) * sum (take d (slice_set cs d (slice_index cs d + 1))) < 2 ^ 64
  turn_rank_fits l = subst (λ k. class_size m (d ∷ x) * k < 2 ^ 64) (sym (turn_below l)) (below_fits m d x b codes few short)

  pub turn_rank : length (slice_set cs d (slice_index cs d + 1)) ≡ 16 → class_size m (d ∷ x) * sum (take d (slice_set cs d (slice_index cs d + 1))) / (rest + 1) + rank m x ≡ rank m (d ∷ x)
  turn_rank l = ap₂ (λ k n. class_size m (d ∷ x) * k / n + rank m x) (turn_below l) next ∙ rank_turn m d x b codes

  pub turn_fits : rank m (d ∷ x) ≤ 2432902008176640000
  turn_fits = rank_fits m d x b codes short

-- THE EMPTY BLOCK

pub empty_size : (m : ℕ) → class_size m [] ≡ 1
empty_size m = size_tally m [] ∙ ap (λ b. one_if b + 0) (fits m)
  where
    fits : (m : ℕ) → same_counts m [] [] ≡ true
    fits zero = refl
    fits (suc m) = fits m

pub empty_rank : (m : ℕ) → rank m [] ≡ 0
empty_rank m = at (same_counts m [] [])
  where
    at : (b : Bool) → tally (λ y. before y []) (cond b ([] ∷ []) []) ≡ 0
    at true = refl
    at false = refl

-- what a turn at place i - 1 of a block s finds and leaves
pub record Turn (m : ℕ) (s : List ℕ) (i d : ℕ) (cs next : List ℕ) (size rest rk : ℕ) : Type 0 where
  pub code : d < 16
  pub own : slice_index_or cs d 0 + 1 ≤ 20
  pub short : rest + 1 ≤ 20
  pub product : size * (rest + 1) < 2 ^ 64
  pub wide : length next ≡ 16
  pub counts : (c : ℕ) → c < length next → slice_index next c ≡ count c (drop (i - 1) s)
  pub sum_is : sum next ≡ rest + 1
  pub rest_is : rest + 1 ≡ length (drop (i - 1) s)
  pub size_is : size * (rest + 1) / (slice_index cs d + 1) ≡ class_size m (drop (i - 1) s)
  pub smaller : size * (rest + 1) / (slice_index cs d + 1) * sum (take d next) < 2 ^ 64
  pub rank_is : rk + size * (rest + 1) / (slice_index cs d + 1) * sum (take d next) / (rest + 1) ≡ rank m (drop (i - 1) s)
  pub rank_fits : rank m (drop (i - 1) s) < 2 ^ 64

pub turn : (m : ℕ) (s : List ℕ) (i : ℕ) (cs : List ℕ) (size rest rk : ℕ) → m ≤ 16 → length s ≤ 20 → Codes m s → 0 < i → i ≤ length s
    → (length cs ≡ 16) × ((c : ℕ) → c < length cs → slice_index cs c ≡ count c (drop i s)) × (sum cs ≡ rest) × (rest ≡ length (drop i s)) × (size ≡ class_size m (drop i s)) × (rk ≡ rank m (drop i s))
    → Turn m s i (slice_index s (i - 1)) cs (slice_set cs (slice_index s (i - 1)) (slice_index cs (slice_index s (i - 1)) + 1)) size rest rk
turn m s i cs size rest rk few most codes lo hi inv =
    let d = slice_index_or s (i - 1) 0 in
    let x = drop i s in
    let next = set cs d (slice_index cs d + 1) in
    let at : i - 1 < length s = omega arith in
    let b : d < m = All-get_or (λ c. c < m) s (i - 1) 0 at codes in
    let tail : Codes m x = All-drop (λ c. c < m) i s codes in
    let back : i - 1 + 1 ≡ i = omega arith in
    let e : drop (i - 1) s ≡ d ∷ x = drop_more s (i - 1) 0 at ∙ ap (λ j. d ∷ drop j s) back in
    let long : length x ≡ length s - i = length-drop i s in
    let short : suc (length x) ≤ 20 = omega arith in
    let inside : d < length cs = omega (arith, inv.0) in
    let wide : length next ≡ 16 = length-set cs d (slice_index cs d + 1) ∙ inv.0 in
    let here = inv.1 d inside in
    let size_is = turn_size m d x cs size rest b tail few inv.0 short inv.1 inv.3 inv.4 in
    let rank_is = turn_rank m d x cs size rest b tail few inv.0 short inv.1 inv.3 inv.4 wide in
    record {
      code = omega (arith, inv.0);
      own = omega (arith, tally_le_length (λ b. nat_eq b d) x);
      short = omega (arith, inv.3);
      product = omega (arith, turn_size_fits m d x cs size rest b tail few inv.0 short inv.1 inv.3 inv.4);
      wide = wide;
      counts = λ c h. turn_counts m d x cs size rest b tail few inv.0 short inv.1 inv.3 inv.4 c (omega arith) ∙ ap (count c) (sym e);
      sum_is = omega (arith, sum_by-set (λ (k : ℕ). k) cs d (slice_index cs d + 1) 0 inside, inv.2);
      rest_is = omega (arith, inv.3, ap length e);
      size_is = size_is ∙ ap (class_size m) (sym e);
      smaller = subst (λ k. k * sum (take d next) < 2 ^ 64) (sym size_is) (turn_rank_fits m d x cs size rest b tail few inv.0 short inv.1 inv.3 inv.4 wide);
      rank_is =
          ap₂ (λ k r. r + k * sum (take d next) / (rest + 1)) size_is inv.5
          ∙ add_comm (rank m x) (class_size m (d ∷ x) * sum (take d next) / (rest + 1)) ∙ rank_is ∙ ap (rank m) (sym e);
      rank_fits = omega (arith, ap (rank m) e, turn_fits m d x cs size rest b tail few inv.0 short inv.1 inv.3 inv.4);
    }
