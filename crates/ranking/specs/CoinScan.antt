-- Coins: the size of a class is a binomial, and a one in a block adds the binomial of the words with that one later. Assumes nothing.
use Rattle.std.specs.Prelude.{◌≡◌, ℕ, zero, suc, ◌+◌, ◌-◌, ◌^◌, ◌<◌, ◌≤◌, Bool, true, false, ◌&&◌, List, [], ◌∷◌, length, drop, ◌==◌, ◌≢◌, slice_index, slice_index_or, refl}
use Rattle.std.proofs.Common.{sym, ◌∙◌, ap, ap₂, zero-add, pow-suc, one-add, arith, length-drop, pow_pos, pow_mono}
use Rattle.std.proofs.Math.Bool.{and-false}
use Rattle.std.proofs.Math.Dec.{eqb-suc-zero, eqb-suc-suc}
use Rattle.std.proofs.ByRecursion.{All-drop, All-get_or}
use Rattle.std.proofs.lemmas.List.{drop_more}
use Rattle.classes.specs.Counting.{tally}
use Rattle.classes.specs.Recordings.{Codes, count}
use Rattle.classes.specs.Classes.{words}
use Rattle.ranking.specs.Binomials.{choose}
use Rattle.ranking.specs.Ranks.{rank, class_size}
use Rattle.ranking.specs.Pascal.{choose_over}
use Rattle.ranking.specs.Scans.{tally_same, tally_none, tally_led, size_tally, rank_le_size, rank_step}

-- the test for z zeros and k ones
abbrev coins : ℕ → ℕ → List ℕ → Bool
coins z k y = count 1 y == k && (count 0 y == z && true)

zero_no : (k : ℕ) (l : List ℕ) → coins 0 k (0 ∷ l) ≡ false
zero_no k l = rw (one-add, eqb-suc-zero) (and-false _)

zero_led : (z k : ℕ) (l : List ℕ) → coins (suc z) k (0 ∷ l) ≡ coins z k l
zero_led z k l = rw (one-add, zero-add, eqb-suc-suc)

one_no : (z : ℕ) (l : List ℕ) → coins z 0 (1 ∷ l) ≡ false
one_no z l = rw (one-add, eqb-suc-zero)

one_led : (z k : ℕ) (l : List ℕ) → coins z (suc k) (1 ∷ l) ≡ coins z k l
one_led z k l = rw (one-add, zero-add, eqb-suc-suc)

-- how many words of n coins have z zeros and k ones
coins_many : (n z k : ℕ) → z + k ≡ n → tally (coins z k) (words 2 n) ≡ choose n k
unfolding choose
coins_many zero zero zero e = refl
coins_many zero zero (suc k) e = absurd (omega arith)
coins_many zero (suc z) k e = absurd (omega arith)
coins_many (suc n) zero zero e = absurd (omega arith)
coins_many (suc n) zero (suc k) e =
    omega (
      arith,
      tally_led (coins 0 (suc k)) 2 (words 2 n),
      tally_none _ (zero_no (suc k)) (words 2 n),
      tally_same _ _ (one_led 0 k) (words 2 n),
      coins_many n zero k (omega arith),
      choose_over n (suc k) (omega arith),
    )
coins_many (suc n) (suc z) zero e =
    omega (
      arith,
      tally_led (coins (suc z) 0) 2 (words 2 n),
      tally_none _ (one_no (suc z)) (words 2 n),
      tally_same _ _ (zero_led z 0) (words 2 n),
      coins_many n z zero (omega arith),
    )
coins_many (suc n) (suc z) (suc k) e =
    omega (
      arith,
      tally_led (coins (suc z) (suc k)) 2 (words 2 n),
      tally_same _ _ (zero_led z (suc k)) (words 2 n),
      tally_same _ _ (one_led (suc z) k) (words 2 n),
      coins_many n z (suc k) (omega arith),
      coins_many n (suc z) k (omega arith),
    )

coins_total : (x : List ℕ) → Codes 2 x → count 0 x + count 1 x ≡ length x
coins_total [] h = refl
coins_total (zero ∷ x) h = omega (arith, coins_total x h.1)
coins_total (suc zero ∷ x) h = omega (arith, coins_total x h.1)
coins_total (suc (suc c) ∷ x) h = absurd (omega (arith, h.0))

pub coin_size : (x : List ℕ) → Codes 2 x → class_size 2 x ≡ choose (length x) (count 1 x)
coin_size x h = size_tally 2 x ∙ coins_many (length x) (count 0 x) (count 1 x) (coins_total x h)

pub coin_rank_zero : (x : List ℕ) → rank 2 (0 ∷ x) ≡ rank 2 x
coin_rank_zero x = rank_step 2 0 x (omega arith) ∙ zero-add _

coins_less : (n z k : ℕ) → z + k ≡ n → tally (λ l. coins (0 + z) (1 + k) (0 ∷ l)) (words 2 n) ≡ choose n (suc k)
coins_less n zero k e = rw (one-add k) (tally_none _ (zero_no (suc k)) (words 2 n) ∙ sym (choose_over n (suc k) (omega arith)))
coins_less n (suc z) k e = rw (one-add k, zero-add (suc z)) (tally_same _ _ (zero_led z (suc k)) (words 2 n) ∙ coins_many n z (suc k) (omega arith))

pub coin_rank_one : (x : List ℕ) → Codes 2 x → rank 2 (1 ∷ x) ≡ choose (length x) (suc (count 1 x)) + rank 2 x
coin_rank_one x h =
    rank_step 2 1 x (omega arith) ∙ ap (λ k. k + rank 2 x) (zero-add _ ∙ coins_less (length x) (count 0 x) (count 1 x) (coins_total x h))

choose_below : (n k : ℕ) → choose n k ≤ 2 ^ n
unfolding choose
choose_below n zero = omega (arith, pow_pos n)
choose_below zero (suc k) = omega arith
choose_below (suc n) (suc k) = let double : 2 ^ suc n ≡ 2 ^ n + 2 ^ n = rw pow-suc (omega arith) in omega (arith, choose_below n (suc k), choose_below n k)

pub coin_size_fits : (x : List ℕ) → Codes 2 x → length x ≤ 60 → class_size 2 x ≤ 2 ^ 60
coin_size_fits x h l = omega (arith, coin_size x h, choose_below (length x) (count 1 x), pow_mono l)

pub coin_rank_fits : (x : List ℕ) → Codes 2 x → length x ≤ 60 → rank 2 x ≤ 2 ^ 60
coin_rank_fits x h l = omega (arith, rank_le_size 2 x, coin_size_fits x h l)

-- the scan's turn at place i of a block s
module _ (s : List ℕ) (i : ℕ) (h : i < length s) (codes : Codes 2 s) where
  pub turn_one : slice_index_or s i 0 ≡ 1
      → (count 1 (drop i s) ≡ suc (count 1 (drop (i + 1) s)))
      × (rank 2 (drop i s) ≡ choose (length s - (i + 1)) (count 1 (drop i s)) + rank 2 (drop (i + 1) s))
  turn_one e =
      let d : drop i s ≡ 1 ∷ drop (i + 1) s = drop_more s i 0 h ∙ ap (λ c. c ∷ drop (i + 1) s) e in
      let t : count 1 (drop i s) ≡ suc (count 1 (drop (i + 1) s)) = ap (count 1) d ∙ one-add _ in (
        t,
        ap (rank 2) d ∙ coin_rank_one (drop (i + 1) s) (All-drop (λ c. c < 2) (i + 1) s codes)
            ∙ ap₂ (λ n k. choose n k + rank 2 (drop (i + 1) s)) (length-drop (i + 1) s) (sym t),
      )

  pub turn_zero : (slice_index s i ≢ 1) → (count 1 (drop i s) ≡ count 1 (drop (i + 1) s)) × (rank 2 (drop i s) ≡ rank 2 (drop (i + 1) s))
  turn_zero ne =
      let b : slice_index_or s i 0 < 2 = All-get_or (λ c. c < 2) s i 0 h codes in
      let e : slice_index_or s i 0 ≡ 0 = other (slice_index s i) b ne in
      let d : drop i s ≡ 0 ∷ drop (i + 1) s = drop_more s i 0 h ∙ ap (λ c. c ∷ drop (i + 1) s) e in
      (ap (count 1) d ∙ zero-add _, ap (rank 2) d ∙ coin_rank_zero (drop (i + 1) s))
    where
      other : (c : ℕ) → c < 2 → (c ≢ 1) → c ≡ 0
      other c l n = omega arith
