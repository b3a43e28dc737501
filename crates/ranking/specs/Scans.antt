-- The rank of a block code by code: those before it in its class begin with a smaller code, or with the same code and go on
-- before the rest. Assumes nothing.
use Rattle.std.specs.Prelude.{◌≡◌, ℕ, zero, suc, ◌+◌, ◌*◌, ◌<◌, ◌≤◌, Bool, true, false, cond, ◌&&◌, List, [], ◌∷◌, map, length, filter, ◌==◌, refl}
use Rattle.std.proofs.Common.{sym, ◌∙◌, ap, ap₂, ⊎_elim, zero-mul, add-mul, mul-zero, mul-add, arith}
use Rattle.std.proofs.Math.Bool.{and-false, and-true}
use Rattle.std.proofs.lemmas.Bool.{cases_lt}
use Rattle.std.proofs.lemmas.Bool.Decides.{nat_tests}
use Rattle.classes.specs.Counting.{one_if, tally}
use Rattle.classes.specs.Recordings.{count}
use Rattle.classes.specs.Classes.{led_below, words, same_counts}
use Rattle.classes.proofs.Counts.{add_up_append, add_up_map, length_kept}
use Rattle.ranking.specs.Ranks.{before, rank, class_size}
use Rattle.ranking.specs.RanksInOrder.{before_less, before_same, before_more}

-- SUMS OVER CODES

abbrev pub sum_below : ℕ → (ℕ → ℕ) → ℕ
sum_below zero f = 0
sum_below (suc m) f = sum_below m f + f m

pub sum_same : (f g : ℕ → ℕ) (m : ℕ) → ((c : ℕ) → c < m → f c ≡ g c) → sum_below m f ≡ sum_below m g
sum_same f g zero e = refl
sum_same f g (suc m) e = ap₂ ◌+◌ (sum_same f g m (λ c h. e c (omega arith))) (e m (omega arith))

pub sum_mul : (f : ℕ → ℕ) (k m : ℕ) → sum_below m f * k ≡ sum_below m (λ c. f c * k)
sum_mul f k zero = zero-mul k
sum_mul f k (suc m) = add-mul (sum_below m f) (f m) k ∙ ap (λ x. x + f m * k) (sum_mul f k m)

pub mul_sum : (f : ℕ → ℕ) (k m : ℕ) → k * sum_below m f ≡ sum_below m (λ c. k * f c)
mul_sum f k zero = mul-zero k
mul_sum f k (suc m) = mul-add k (sum_below m f) (f m) ∙ ap (λ x. x + k * f m) (mul_sum f k m)

pub sum_mono : (f : ℕ → ℕ) (c d : ℕ) → c ≤ d → sum_below c f ≤ sum_below d f
sum_mono f c zero h = let e : c ≡ 0 = omega arith in omega (arith, ap (λ k. sum_below k f) e)
sum_mono f c (suc d) h =
    ⊎_elim (λ (l : c < suc d). omega (arith, sum_mono f c d (omega arith)))
    (λ (l : suc d ≤ c). let e : c ≡ suc d = omega arith in omega (arith, ap (λ k. sum_below k f) e)) (cases_lt c (suc d))

-- what is g below d and nothing above d adds up to the sum of g below d and what stands at d
sum_peak : (f g : ℕ → ℕ) (d m : ℕ) → d < m → ((c : ℕ) → c < d → f c ≡ g c) → ((c : ℕ) → d < c → f c ≡ 0) → sum_below m f ≡ sum_below d g + f d
sum_peak f g d zero h lo hi = absurd (omega arith)
sum_peak f g d (suc m) h lo hi =
    ⊎_elim (λ (l : d < m). omega (arith, sum_peak f g d m l lo hi, hi m l))
    (λ (l : m ≤ d). let e : d ≡ m = omega arith in rw e (ap (λ k. k + f m) (sum_same f g m (λ c b. lo c (omega arith)))))
    (cases_lt d m)

-- TALLIES

module _ {X : Type 0} where
  pub tally_same : (p q : X → Bool) → ((x : X) → p x ≡ q x) → (xs : List X) → tally p xs ≡ tally q xs
  tally_same p q e [] = refl
  tally_same p q e (x ∷ xs) = ap₂ (λ b n. one_if b + n) (e x) (tally_same p q e xs)

  pub tally_none : (p : X → Bool) → ((x : X) → p x ≡ false) → (xs : List X) → tally p xs ≡ 0
  tally_none p e [] = refl
  tally_none p e (x ∷ xs) = ap₂ (λ b n. one_if b + n) (e x) (tally_none p e xs)

  -- those that pass q among those that passed p
  tally_kept : (p q : X → Bool) (xs : List X) → tally q (filter p xs) ≡ tally (λ x. p x && q x) xs
  tally_kept p q [] = refl
  tally_kept p q (x ∷ xs) = at (tally_kept p q xs) (p x)
    where
      at : tally q (filter p xs) ≡ tally (λ y. p y && q y) xs → (b : Bool) → tally q (cond b (x ∷ filter p xs) (filter p xs)) ≡ one_if (b && q x) + tally (λ y. p y && q y) xs
      at ih true = ap (λ n. one_if (q x) + n) ih
      at ih false = omega arith

  pub tally_under : (p q : X → Bool) (xs : List X) → tally (λ x. p x && q x) xs ≤ tally p xs
  tally_under p q [] = omega arith
  tally_under p q (x ∷ xs) = omega (arith, each (p x) (q x), tally_under p q xs)
    where
      each : (a b : Bool) → one_if (a && b) ≤ one_if a
      each true true = omega arith
      each true false = omega arith
      each false b = omega arith

pub tally_led : (p : List ℕ → Bool) (m : ℕ) (ws : List (List ℕ)) → tally p (led_below m ws) ≡ sum_below m (λ c. tally (λ w. p (c ∷ w)) ws)
tally_led p zero ws = refl
tally_led p (suc m) ws =
    add_up_append (λ w. one_if (p w)) (led_below m ws) (map (λ w. m ∷ w) ws)
    ∙ ap₂ ◌+◌ (tally_led p m ws) (add_up_map (λ w. one_if (p w)) (λ w. m ∷ w) ws)

-- SIZE AND RANK AS TALLIES OF ALL WORDS

pub size_tally : (m : ℕ) (x : List ℕ) → class_size m x ≡ tally (same_counts m x) (words m (length x))
size_tally m x = length_kept (same_counts m x) (words m (length x))

rank_tally : (m : ℕ) (x : List ℕ) → rank m x ≡ tally (λ y. same_counts m x y && before y x) (words m (length x))
rank_tally m x = tally_kept (same_counts m x) (λ y. before y x) (words m (length x))

pub rank_le_size : (m : ℕ) (x : List ℕ) → rank m x ≤ class_size m x
rank_le_size m x = omega (arith, rank_tally m x, size_tally m x, tally_under (same_counts m x) (λ y. before y x) (words m (length x)))

-- ONE CODE MORE IN FRONT

eqb_plus : (a b k : ℕ) → (k + a == k + b) ≡ (a == b)
eqb_plus a b k = grind (arith, nat_tests)

pub same_step : (m d : ℕ) (x l : List ℕ) → same_counts m (d ∷ x) (d ∷ l) ≡ same_counts m x l
same_step zero d x l = refl
same_step (suc m) d x l = ap₂ ◌&&◌ (eqb_plus (count m l) (count m x) (one_if (d == m))) (same_step m d x l)

-- how many blocks of the class of x begin with c
abbrev pub begins : ℕ → List ℕ → ℕ → ℕ → ℕ
begins m x n c = tally (λ l. same_counts m x (c ∷ l)) (words m n)

pub rank_step : (m d : ℕ) (x : List ℕ) → d < m → rank m (d ∷ x) ≡ sum_below d (begins m (d ∷ x) (length x)) + rank m x
rank_step m d x h =
    rank_tally m (d ∷ x) ∙ tally_led p m (words m (length x))
    ∙ sum_peak (λ c. tally (λ l. p (c ∷ l)) (words m (length x))) (begins m (d ∷ x) (length x)) d m h
    (λ c k. tally_same _ _ (λ l. ap (λ b. same_counts m (d ∷ x) (c ∷ l) && b) (before_less c d l x k) ∙ and-true _) (words m (length x)))
    (λ c k. tally_none _ (λ l. ap (λ b. same_counts m (d ∷ x) (c ∷ l) && b) (before_more c d l x k) ∙ and-false _) (words m (length x)))
    ∙ ap (λ k. sum_below d (begins m (d ∷ x) (length x)) + k)
    (tally_same _ _ (λ l. ap₂ ◌&&◌ (same_step m d x l) (before_same d l x)) (words m (length x)) ∙ sym (rank_tally m x))
  where
    p : List ℕ → Bool
    p y = same_counts m (d ∷ x) y && before y (d ∷ x)
