-- A block of coins passed from the last coin to the first: how many coins and ones are passed, and their rank. Assumes nothing.
use Rattle.std.proofs.Common.{◌≡◌, ℕ, suc, ◌+◌, ◌^◌, ◌<◌, ◌≤◌, ◌≢◌, List, [], ◌∷◌, ◌++◌, length, nat_eq, sym, ap, ap₂, ◌∙◌, subst, append_assoc, arith, length-append}
use Rattle.std.specs.List.{push, AllByRecursion}
use Rattle.std.proofs.lemmas.List.{nil_from_length}
use Rattle.classes.specs.Recordings.{Codes, count}
use Rattle.classes.proofs.Counts.{tally_le_length}
use Rattle.ranking.specs.Binomials.{choose}
use Rattle.ranking.specs.Ranks.{rank, class_size}
use Rattle.ranking.specs.CoinScan.{coin_size, coin_rank_fits, coin_rank_zero, coin_rank_one}
use Rattle.ranking.proofs.BlockWriting.{parts_all}

-- of the coins of a block those of rest are to come; so many are passed, so many of them ones, and they have the rank rk
pub record Passing (block rest : List ℕ) (passed ones rk : ℕ) : Type 0 where
  pub later : List ℕ
  pub whole : block ≡ rest ++ later
  pub passed_is : passed ≡ length later
  pub ones_is : ones ≡ count 1 later
  pub rank_is : rk ≡ rank 2 later

-- the coin c is next: it has so many coins behind it, and then so many are passed
module _ {s rest : List ℕ} {passed ones rk : ℕ} (w : Passing s rest passed ones rk) (codes : Codes 2 s) (short : length s ≤ 60)
    (c behind more : ℕ) (front : List ℕ) (e : rest ≡ push front c) (eb : behind ≡ passed) (em : more ≡ passed + 1) where
  next_whole : s ≡ front ++ (c ∷ w.later)
  next_whole = w.whole ∙ ap (λ r. r ++ w.later) e ∙ append_assoc front (c ∷ []) w.later

  next_codes : Codes 2 (c ∷ w.later)
  next_codes = (parts_all (λ c. c < 2) front (c ∷ w.later) (subst (AllByRecursion (λ c. c < 2)) next_whole codes)).1

  next_short : length front + length (c ∷ w.later) ≤ 60
  next_short = omega (arith, ap length next_whole, length-append front (c ∷ w.later))

  pub next_room : length front + more ≤ 60
  next_room = omega (arith, next_short, w.passed_is)

  pub next_ones : ones + 1 ≤ 60
  next_ones = omega (arith, next_short, w.ones_is, tally_le_length (λ b. nat_eq b 1) w.later)

  module _ (N : ℕ) (one : c ≡ 1) (en : N ≡ choose behind (ones + 1)) where
    led : c ∷ w.later ≡ 1 ∷ w.later
    led = ap (λ k. k ∷ w.later) one

    rank_more : rk + N ≡ rank 2 (c ∷ w.later)
    rank_more =
        let k : ones + 1 ≡ suc (count 1 w.later) = omega (arith, w.ones_is) in
        let n : N ≡ choose (length w.later) (suc (count 1 w.later)) = en ∙ ap₂ choose (eb ∙ w.passed_is) k in
        omega (arith, w.rank_is, n, ap (rank 2) led, coin_rank_one w.later next_codes.1)

    pub next_one : Passing s front more (ones + 1) (rk + N)
    next_one = record {
      later = c ∷ w.later;
      whole = next_whole;
      passed_is = omega (arith, w.passed_is);
      ones_is = omega (arith, w.ones_is, ap (count 1) led);
      rank_is = rank_more;
    }

    pub next_rank_fits : rk + N < 2 ^ 64
    next_rank_fits = omega (arith, rank_more, coin_rank_fits (c ∷ w.later) next_codes (omega (arith, next_short)))

  pub next_zero : (c ≢ 1) → Passing s front more ones rk
  next_zero ne =
      let zero : c ≡ 0 = omega (arith, next_codes.0) in
      let led : c ∷ w.later ≡ 0 ∷ w.later = ap (λ k. k ∷ w.later) zero in
      record {
        later = c ∷ w.later;
        whole = next_whole;
        passed_is = omega (arith, w.passed_is);
        ones_is = omega (arith, w.ones_is, ap (count 1) led);
        rank_is = w.rank_is ∙ sym (ap (rank 2) led ∙ coin_rank_zero w.later);
      }

pub all_passed : {s rest : List ℕ} {passed ones rk : ℕ} → Passing s rest passed ones rk → length rest ≡ 0 → Codes 2 s → (rk ≡ rank 2 s) × (choose (length s) ones ≡ class_size 2 s)
all_passed {s} {rest} {passed} {ones} {rk} w none codes =
    let e : w.later ≡ s = sym (w.whole ∙ ap (λ r. r ++ w.later) (nil_from_length rest none)) in
    (w.rank_is ∙ ap (rank 2) e, ap (choose (length s)) (w.ones_is ∙ ap (count 1) e) ∙ sym (coin_size s codes))
