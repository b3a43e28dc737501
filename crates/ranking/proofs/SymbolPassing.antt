-- A block of symbols passed from the last code to the first: the counts, the arrangements and the rank of what is passed. Assumes nothing.
use Rattle.std.proofs.Common.{◌≡◌, ℕ, suc, ◌+◌, ◌*◌, ◌/◌, ◌^◌, ◌<◌, ◌≤◌, List, [], ◌∷◌, ◌++◌, length, get_or, take, set, replicate, nat_eq, refl, sym, ap, ap₂, ◌∙◌, subst, append_assoc, append-nil, add_comm, arith, length-append, length-set}
use lib.ListN.{get_or-replicate}
use Rattle.std.specs.Prelude.{sum}
use Rattle.std.specs.List.{push, AllByRecursion}
use Rattle.std.proofs.lemmas.List.{nil_from_length}
use Rattle.classes.specs.Recordings.{Codes, count}
use Rattle.classes.proofs.Counts.{tally_le_length}
use Rattle.ranking.specs.Factorials.{Multinomial}
use Rattle.ranking.specs.Ranks.{rank, class_size}
use Rattle.ranking.specs.SymbolScan.{class_multinomial, turn_counts, turn_size_fits, turn_size, turn_smaller, turn_rank_fits, turn_rank, turn_fits, empty_size, empty_rank}
use Rattle.ranking.proofs.BlockWriting.{parts_all}

-- of the codes of a block those of rest are to come; so many are passed, and cs are their counts, N their arrangements, rk their rank
pub record Passing (m : ℕ) (block rest : List ℕ) (passed : ℕ) (cs : List ℕ) (N rk : ℕ) : Type 0 where
  pub later : List ℕ
  pub whole : block ≡ rest ++ later
  pub passed_is : passed ≡ length later
  pub wide : length cs ≡ 16
  pub counts : (c : ℕ) → c < length cs → get_or cs c 0 ≡ count c later
  pub size_is : N ≡ class_size m later
  pub rank_is : rk ≡ rank m later

pub none_passed : (m : ℕ) (s rest : List ℕ) (passed : ℕ) → rest ≡ s → passed ≡ 0 → Passing m s rest passed (replicate 16 0) 1 0
none_passed m s rest passed e z = record {
  later = [];
  whole = sym (append-nil rest ∙ e);
  passed_is = z;
  wide = refl;
  counts = λ c h. get_or-replicate 16 c 0 0 h;
  size_is = sym (empty_size m);
  rank_is = sym (empty_rank m);
}

-- the code d is passed, with so many behind it: the counts become next, and then so many are passed
pub record Passed (m : ℕ) (s front : List ℕ) (d behind more : ℕ) (cs next : List ℕ) (N rk : ℕ) : Type 0 where
  pub room : length front + more ≤ 20
  pub code : d < 16
  pub wide : length cs ≡ 16
  pub own : get_or cs d 0 + 1 ≤ 20
  pub product : N * (behind + 1) < 2 ^ 64
  pub smaller : sum (take d next) < 2 ^ 64
  pub share : N * (behind + 1) / (get_or cs d 0 + 1) * sum (take d next) < 2 ^ 64
  pub fits : rk + N * (behind + 1) / (get_or cs d 0 + 1) * sum (take d next) / (behind + 1) < 2 ^ 64
  pub then : Passing m s front more next (N * (behind + 1) / (get_or cs d 0 + 1)) (rk + N * (behind + 1) / (get_or cs d 0 + 1) * sum (take d next) / (behind + 1))

pub pass : {m : ℕ} {s rest : List ℕ} {passed : ℕ} {cs : List ℕ} {N rk : ℕ} → Passing m s rest passed cs N rk → m ≤ 16 → length s ≤ 20 → Codes m s
    → (c d behind more : ℕ) (front : List ℕ) → rest ≡ push front c → d ≡ c → behind ≡ passed → more ≡ passed + 1
    → Passed m s front d behind more cs (set cs d (get_or cs d 0 + 1)) N rk
pass {m} {s} {rest} {passed} {cs} {N} {rk} w few most codes c d behind more front e ed eb em =
    let x = w.later in
    let next = set cs d (get_or cs d 0 + 1) in
    let whole : s ≡ front ++ (d ∷ x) = w.whole ∙ ap (λ r. r ++ x) (e ∙ ap (push front) (sym ed)) ∙ append_assoc front (d ∷ []) x in
    let parts = (parts_all (λ c. c < m) front (d ∷ x) (subst (AllByRecursion (λ c. c < m)) whole codes)).1 in
    let long : length s ≡ length front + suc (length x) = ap length whole ∙ length-append front (d ∷ x) in
    let short : suc (length x) ≤ 20 = omega arith in
    let behind_is : behind ≡ length x = eb ∙ w.passed_is in
    let wide : length next ≡ 16 = length-set cs d (get_or cs d 0 + 1) ∙ w.wide in
    let size_is = turn_size m d x cs N behind parts.0 parts.1 few w.wide short w.counts behind_is w.size_is in
    let share = turn_rank_fits m d x cs N behind parts.0 parts.1 few w.wide short w.counts behind_is w.size_is wide in
    let rank_is : rk + N * (behind + 1) / (get_or cs d 0 + 1) * sum (take d next) / (behind + 1) ≡ rank m (d ∷ x) =
    ap₂ (λ k r. r + k * sum (take d next) / (behind + 1)) size_is w.rank_is
    ∙ add_comm (rank m x) (class_size m (d ∷ x) * sum (take d next) / (behind + 1))
    ∙ turn_rank m d x cs N behind parts.0 parts.1 few w.wide short w.counts behind_is w.size_is wide in
    record {
      room = omega (arith, w.passed_is);
      code = omega (arith, parts.0);
      wide = w.wide;
      own = omega (arith, w.counts d (omega (arith, parts.0, w.wide)), tally_le_length (λ b. nat_eq b d) x);
      product = omega (arith, turn_size_fits m d x cs N behind parts.0 parts.1 few w.wide short w.counts behind_is w.size_is);
      smaller = omega (arith, turn_smaller m d x cs N behind parts.0 parts.1 few w.wide short w.counts behind_is w.size_is wide);
      share = subst (λ k. k * sum (take d next) < 2 ^ 64) (sym size_is) share;
      fits = omega (arith, rank_is, turn_fits m d x cs N behind parts.0 parts.1 few w.wide short w.counts behind_is w.size_is);
      then = record {
        later = d ∷ x;
        whole = whole;
        passed_is = omega (arith, w.passed_is);
        wide = wide;
        counts = λ k h. turn_counts m d x cs N behind parts.0 parts.1 few w.wide short w.counts behind_is w.size_is k (omega arith);
        size_is = size_is;
        rank_is = rank_is;
      };
    }

pub all_passed : {m : ℕ} {s rest : List ℕ} {passed : ℕ} {cs : List ℕ} {N rk : ℕ} → Passing m s rest passed cs N rk → length rest ≡ 0 → Codes m s → Multinomial m s N
all_passed {m} {s} {rest} {passed} {cs} {N} w none codes =
    let e : w.later ≡ s = sym (w.whole ∙ ap (λ r. r ++ w.later) (nil_from_length rest none)) in
    subst (Multinomial m s) (sym (w.size_is ∙ ap (class_size m) e)) (class_multinomial m s codes)
