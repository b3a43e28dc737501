-- The group rule as a loop over the powers of two meets it, bits as bytes, and the room that the bits take. Assumes nothing.
use Rattle.std.proofs.Common.{◌≡◌, ℕ, zero, suc, ◌+◌, ◌-◌, ◌*◌, ◌/◌, ◌%◌, ◌^◌, ◌<◌, ◌≤◌, ◌≢◌, Bool, nat_eq, List, [], length, get_or, set, sym, refl, ap, ◌∙◌, ⊎_elim, arith, bit_and, below_more, get_or-set_same, get_or-set_other}
use lib.Pow.{pow-lt}
use Rattle.std.specs.Int.{from_bool}
use Rattle.std.proofs.lemmas.Grind.{same_number_lists}
use Rattle.std.proofs.lemmas.Nat.{one_shl}
use Rattle.std.proofs.lemmas.Nat.Bits.{shr_and_one}
use Rattle.std.proofs.lemmas.Bool.{cases_lt}
use Rattle.extractors.specs.Bits.{bytes}
use Rattle.extractors.proofs.Writing.{length_bytes}
use Rattle.ranking.specs.Groups.{in_bits, group_bits, rank_bits}
use Rattle.ranking.specs.GroupRule.{double, bit_none, bit_at, bit_under, in_bits_low, in_bits_high, length_in_bits, group_bits_none, group_bits_skip, group_bits_here, group_bits_next, rank_bits_start}

back : (k : ℕ) → 0 < k → k ≡ suc (k - 1)
back k h = omega arith

-- BITS

-- the bit at place k of t in a bits
digit : (a t k : ℕ) → t < 2 ^ a → k < a → get_or (bytes (in_bits a t)) k 0 ≡ t / 2 ^ (a - 1 - k) % 2
digit zero t k h l = absurd (omega arith)
digit (suc a) t zero h l =
    let place : suc a - 1 - 0 ≡ a = omega arith in
    rw place (
    ⊎_elim
    (λ (low : t < 2 ^ a). ap (λ s. get_or (bytes s) 0 0) (in_bits_low a t low) ∙ sym (bit_none a t low))
    (λ (high : 2 ^ a ≤ t).
    let whole : t - 2 ^ a + 2 ^ a ≡ t = omega arith in
    ap (λ s. get_or (bytes s) 0 0) (in_bits_high a t high) ∙ sym (bit_at a (t - 2 ^ a) (omega (arith, double a))) ∙ ap (λ n. n / 2 ^ a % 2) whole)
    (cases_lt t (2 ^ a))
    )
digit (suc a) t (suc k) h l =
    let place : suc a - 1 - suc k ≡ a - 1 - k = omega arith in
    rw place (
    ⊎_elim
    (λ (low : t < 2 ^ a). ap (λ s. get_or (bytes s) (suc k) 0) (in_bits_low a t low) ∙ digit a t k low (omega arith))
    (λ (high : 2 ^ a ≤ t).
    let whole : t - 2 ^ a + 2 ^ a ≡ t = omega arith in
    ap (λ s. get_or (bytes s) (suc k) 0) (in_bits_high a t high) ∙ digit a (t - 2 ^ a) k (omega (arith, double a)) (omega arith)
    ∙ sym (bit_under a (a - 1 - k) (t - 2 ^ a) (omega arith)) ∙ ap (λ n. n / 2 ^ (a - 1 - k) % 2) whole)
    (cases_lt t (2 ^ a))
    )

-- the byte that the code makes of that bit
pub flag : (n i : ℕ) → from_bool (nat_eq (bit_and (n / 2 ^ i) 1) 1) ≡ n / 2 ^ i % 2
flag n i = rw shr_and_one (at (n / 2 ^ i % 2) (omega arith))
  where
    at : (r : ℕ) → r < 2 → from_bool (nat_eq r 1) ≡ r
    at zero h = refl
    at (suc zero) h = refl
    at (suc (suc r)) h = absurd (omega arith)

pub written : (a t i v : ℕ) (xs : List ℕ) → t < 2 ^ a → a ≡ length xs → i < a → ((k : ℕ) → k < i → get_or xs k 0 ≡ get_or (bytes (in_bits a t)) k 0) → v ≡ t / 2 ^ (a - 1 - i) % 2
    → (k : ℕ) → k < i + 1 → get_or (set xs i v) k 0 ≡ get_or (bytes (in_bits a t)) k 0
written a t i v xs h e l before ev =
    below_more _ _
    (λ k m. let ne : k ≢ i = omega arith in rw get_or-set_other (before k m))
    (let inside : i < length xs = omega arith in get_or-set_same xs i v 0 inside ∙ ev ∙ sym (digit a t i h l))

pub all_written : (a t : ℕ) (xs : List ℕ) → length xs ≡ a → ((k : ℕ) → k < length xs → get_or xs k 0 ≡ get_or (bytes (in_bits a t)) k 0) → xs ≡ bytes (in_bits a t)
all_written a t xs e h = same_number_lists xs (bytes (in_bits a t)) (e ∙ sym (length_bytes (in_bits a t) ∙ length_in_bits a t)) h

-- GROUPS

-- the turn at the power a - 1, which the code shifts
module _ (a n r : ℕ) (p : 0 < a) (wide : a ≤ 64) where
  power : 1 * 2 ^ (a - 1) % 2 ^ 64 ≡ 2 ^ (a - 1)
  power = one_shl (a - 1) 64 (omega arith)

  pub turn_skip : n < 1 * 2 ^ (a - 1) % 2 ^ 64 → group_bits a n r ≡ group_bits (a - 1) n r
  turn_skip h = ap (λ k. group_bits k n r) (back a p) ∙ group_bits_skip (a - 1) n r (omega (arith, power))

  pub turn_later : 1 * 2 ^ (a - 1) % 2 ^ 64 ≤ n → 1 * 2 ^ (a - 1) % 2 ^ 64 ≤ r
      → group_bits a n r ≡ group_bits (a - 1) (n - 1 * 2 ^ (a - 1) % 2 ^ 64) (r - 1 * 2 ^ (a - 1) % 2 ^ 64)
  turn_later h l =
      ap (λ k. group_bits k n r) (back a p) ∙ group_bits_next (a - 1) n r (omega (arith, power)) (omega (arith, power))
      ∙ ap (λ x. group_bits (a - 1) (n - x) (r - x)) (sym power)

  -- the group that holds the rank
  pub turn_here : {s : List Bool} → 1 * 2 ^ (a - 1) % 2 ^ 64 ≤ n → r < 1 * 2 ^ (a - 1) % 2 ^ 64 → group_bits a n r ≡ s
      → (r < 2 ^ (a - 1)) × (a - 1 ≡ length s) × (in_bits (a - 1) r ≡ s)
  turn_here {s} h l e =
      let less : r < 2 ^ (a - 1) = omega (arith, power) in
      let bits : in_bits (a - 1) r ≡ s = sym (ap (λ k. group_bits k n r) (back a p) ∙ group_bits_here (a - 1) n r (omega (arith, power)) less) ∙ e in
      (less, sym (length_in_bits (a - 1) r) ∙ ap length bits, bits)

pub turn_end : (a n r : ℕ) → a ≡ 0 → group_bits a n r ≡ []
turn_end a n r e = ap (λ k. group_bits k n r) e ∙ group_bits_none n r

-- ROOM

-- a class of at most 2 ^ k blocks gives at most k bits
group_fits : (a n r k : ℕ) → n ≤ 2 ^ k → length (group_bits a n r) ≤ k
group_fits zero n r k h = omega (arith, ap length (turn_end zero n r refl))
group_fits (suc a) n r k h =
    ⊎_elim
    (λ (l : n < 2 ^ a). omega (arith, ap length (group_bits_skip a n r l), group_fits a n r k h))
    (λ (l : 2 ^ a ≤ n).
    ⊎_elim
    (λ (j : r < 2 ^ a). let e : length (group_bits (suc a) n r) ≡ a = ap length (group_bits_here a n r l j) ∙ length_in_bits a r in
    ⊎_elim (λ (o : k < a). let over : 2 ^ k < 2 ^ a = pow-lt o in absurd (omega arith)) (λ (o : a ≤ k). omega arith) (cases_lt k a))
    (λ (j : 2 ^ a ≤ r). omega (arith, ap length (group_bits_next a n r l j), group_fits a (n - 2 ^ a) (r - 2 ^ a) k (omega arith)))
    (cases_lt r (2 ^ a)))
    (cases_lt n (2 ^ a))

pub rank_bits_fit : (n r k : ℕ) → n ≤ 2 ^ k → length (rank_bits n r) ≤ k
rank_bits_fit n r k h = omega (arith, ap length (rank_bits_start n r), group_fits 64 n r k h)
