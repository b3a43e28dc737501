-- The group rule: its laws by the powers from the largest down, how long its bits are, and that each bit string of a group's length comes once. Assumes nothing.
use Rattle.std.specs.Prelude.{◌≡◌, ℕ, zero, suc, ◌+◌, ◌-◌, ◌*◌, ◌/◌, ◌%◌, ◌^◌, ◌<◌, ◌≤◌, Bool, true, false, List, [], ◌∷◌, ◌++◌, length, ◌==◌, nat_lt, refl}
use Rattle.std.proofs.Common.{sym, ap, ap₂, subst, ◌∙◌, ⊎_elim, pow-suc, one-mul, arith, pow_pos, pow_mono, pow-add}
use Rattle.std.proofs.Math.Path.{fun_ext}
use Rattle.std.proofs.Math.Nat.{div-eq_of_lt, add-mul-div_right, add-mul-mod_self_right}
use Rattle.std.specs.List.{range_with_len}
use Rattle.std.proofs.lemmas.Bool.{lt-ltb, le-ltb, eq-eqb, ne_eqb, cases_lt, cases_order, cond_both}
use Rattle.std.proofs.lemmas.Bool.Decides.{nat_tests}
use Rattle.classes.specs.Counting.{one_if, tally, same_bits}
use Rattle.classes.proofs.Counts.{add_up_append, add_up_zero}
use Rattle.ranking.specs.Groups.{in_bits, group_bits, rank_bits}
use Rattle.ranking.specs.GroupLaw.{GroupLaw}

pub double : (a : ℕ) → 2 ^ suc a ≡ 2 ^ a + 2 ^ a
double a = rw pow-suc (omega arith)

-- A PLACE IN BITS

pub in_bits_none : (t : ℕ) → in_bits 0 t ≡ []
unfolding in_bits
in_bits_none t = refl

pub in_bits_low : (a t : ℕ) → t < 2 ^ a → in_bits (suc a) t ≡ false ∷ in_bits a t
unfolding in_bits
in_bits_low a t h = rw (lt-ltb t (2 ^ a) h)

pub in_bits_high : (a t : ℕ) → 2 ^ a ≤ t → in_bits (suc a) t ≡ true ∷ in_bits a (t - 2 ^ a)
unfolding in_bits
in_bits_high a t h = rw (le-ltb t (2 ^ a) h)

pub length_in_bits : (a t : ℕ) → length (in_bits a t) ≡ a
unfolding in_bits
length_in_bits zero t = refl
length_in_bits (suc a) t =
    cond_both {A = List Bool} (nat_lt t (2 ^ a)) (false ∷ in_bits a t) (true ∷ in_bits a (t - 2 ^ a)) (λ bs. length bs ≡ suc a)
    (λ e. ap suc (length_in_bits a t)) (λ e. ap suc (length_in_bits a (t - 2 ^ a)))

-- GROUPS, from the largest power down

pub group_bits_none : (N r : ℕ) → group_bits 0 N r ≡ []
unfolding group_bits
group_bits_none N r = refl

pub group_bits_skip : (a N r : ℕ) → N < 2 ^ a → group_bits (suc a) N r ≡ group_bits a N r
unfolding group_bits
group_bits_skip a N r h = rw (lt-ltb N (2 ^ a) h)

pub group_bits_here : (a N r : ℕ) → 2 ^ a ≤ N → r < 2 ^ a → group_bits (suc a) N r ≡ in_bits a r
unfolding group_bits
group_bits_here a N r h l = rw (le-ltb N (2 ^ a) h, lt-ltb r (2 ^ a) l)

pub group_bits_next : (a N r : ℕ) → 2 ^ a ≤ N → 2 ^ a ≤ r → group_bits (suc a) N r ≡ group_bits a (N - 2 ^ a) (r - 2 ^ a)
unfolding group_bits
group_bits_next a N r h l = rw (le-ltb N (2 ^ a) h, le-ltb r (2 ^ a) l)

pub rank_bits_start : (N r : ℕ) → rank_bits N r ≡ group_bits 64 N r
unfolding rank_bits
rank_bits_start N r = refl

-- HOW LONG THE BITS ARE

pub group_room : (a N r : ℕ) → r < N → N < 2 ^ a → 2 ^ length (group_bits a N r) ≤ N
group_room zero N r h l = absurd (omega arith)
group_room (suc a) N r h l =
    ⊎_elim
    (λ (k : N < 2 ^ a). subst (λ bs. 2 ^ length bs ≤ N) (sym (group_bits_skip a N r k)) (group_room a N r h k))
    (λ (k : 2 ^ a ≤ N).
    ⊎_elim
    (λ (j : r < 2 ^ a). subst (λ n. 2 ^ n ≤ N) (sym (ap length (group_bits_here a N r k j) ∙ length_in_bits a r)) k)
    (λ (j : 2 ^ a ≤ r).
    let rest : 2 ^ length (group_bits a (N - 2 ^ a) (r - 2 ^ a)) ≤ N - 2 ^ a = group_room a (N - 2 ^ a) (r - 2 ^ a) (omega arith) (omega (arith, double a)) in
    subst (λ bs. 2 ^ length bs ≤ N) (sym (group_bits_next a N r k j)) (omega arith))
    (cases_lt r (2 ^ a)))
    (cases_lt N (2 ^ a))

pub rank_room : (N r : ℕ) → r < N → N < 2 ^ 64 → 2 ^ length (rank_bits N r) ≤ N
unfolding rank_bits
rank_room N r h l = group_room 64 N r h l

-- COUNTS OVER NUMBERS

counting_append : (s m n : ℕ) → range_with_len s (m + n) ≡ range_with_len s m ++ range_with_len (s + m) n
counting_append s zero n = let e : s + 0 ≡ s = omega arith in let f : 0 + n ≡ n = omega arith in rw (e, f)
counting_append s (suc m) n =
    let e : suc m + n ≡ suc (m + n) = omega arith in
    let f : s + 1 + m ≡ s + suc m = omega arith in
    ap (range_with_len s) e ∙ ap (λ l. s ∷ l) (counting_append (s + 1) m n ∙ ap (λ k. range_with_len (s + 1) m ++ range_with_len k n) f)

-- tests that agree on the n numbers from s on and on those from c + s on count the same
tally_moved : (p q : ℕ → Bool) (c s n : ℕ) → ((i : ℕ) → s ≤ i → i < s + n → p (c + i) ≡ q i) → tally p (range_with_len (c + s) n) ≡ tally q (range_with_len s n)
tally_moved p q c s zero e = refl
tally_moved p q c s (suc n) e =
    let f : c + s + 1 ≡ c + (s + 1) = omega arith in
    ap₂ (λ b k. one_if b + k) (e s (omega arith) (omega arith))
    (ap (λ k. tally p (range_with_len k n)) f ∙ tally_moved p q c (s + 1) n (λ i h k. e i (omega arith) (omega arith)))

-- the numbers below c + n: those below c, and c + i for i below n
tally_parts : (p q q' : ℕ → Bool) (c n : ℕ) → ((i : ℕ) → i < c → p i ≡ q i) → ((i : ℕ) → i < n → p (c + i) ≡ q' i)
    → tally p (range_with_len 0 (c + n)) ≡ tally q (range_with_len 0 c) + tally q' (range_with_len 0 n)
tally_parts p q q' c n low high =
    let e : 0 + c ≡ c + 0 = omega arith in
    ap (tally p) (counting_append 0 c n) ∙ add_up_append (λ r. one_if (p r)) (range_with_len 0 c) (range_with_len (0 + c) n)
    ∙ ap₂ ◌+◌ (tally_moved p q 0 0 c (λ i h k. ap p (drop_zero i) ∙ low i (omega arith)))
    (ap (λ k. tally p (range_with_len k n)) e ∙ tally_moved p q' c 0 n (λ i h k. high i (omega arith)))
  where
    drop_zero : (i : ℕ) → 0 + i ≡ i
    drop_zero i = omega arith

-- EACH BIT STRING ONCE

-- each bit string of length a is given by one of the 2 ^ a places, and no other string by any
places_once : (a : ℕ) (s : List Bool) → tally (λ t. same_bits (in_bits a t) s) (range_with_len 0 (2 ^ a)) ≡ one_if (length s == a)
places_once zero s = ap (λ bs. one_if (same_bits bs s) + 0) (in_bits_none 0) ∙ at s
  where
    at : (u : List Bool) → one_if (same_bits [] u) + 0 ≡ one_if (length u == 0)
    at [] = refl
    at (b ∷ u) = grind (arith, nat_tests)
places_once (suc a) s =
    ap (λ n. tally (λ t. same_bits (in_bits (suc a) t) s) (range_with_len 0 n)) (double a)
    ∙ tally_parts (λ t. same_bits (in_bits (suc a) t) s) (λ t. same_bits (false ∷ in_bits a t) s) (λ t. same_bits (true ∷ in_bits a t) s) (2 ^ a) (2 ^ a)
    (λ i h. ap (λ bs. same_bits bs s) (in_bits_low a i h))
    (λ i h. ap (λ bs. same_bits bs s) (in_bits_high a (2 ^ a + i) (omega arith) ∙ ap (λ t. true ∷ in_bits a t) (back i)))
    ∙ halves s (places_once a)
  where
    back : (i : ℕ) → 2 ^ a + i - 2 ^ a ≡ i
    back i = omega arith

    next : (n : ℕ) → (n == a) ≡ (suc n == suc a)
    next n = grind (arith, nat_tests)

    never : (n : ℕ) → 0 ≡ one_if (0 == suc n)
    never n = grind (arith, nat_tests)

    halves : (u : List Bool) → ((v : List Bool) → tally (λ t. same_bits (in_bits a t) v) (range_with_len 0 (2 ^ a)) ≡ one_if (length v == a))
        → tally (λ t. same_bits (false ∷ in_bits a t) u) (range_with_len 0 (2 ^ a)) + tally (λ t. same_bits (true ∷ in_bits a t) u) (range_with_len 0 (2 ^ a)) ≡ one_if (length u == suc a)
    halves [] ih = ap₂ ◌+◌ (add_up_zero (range_with_len 0 (2 ^ a))) (add_up_zero (range_with_len 0 (2 ^ a))) ∙ never a
    halves (false ∷ u) ih = omega (arith, ih u, add_up_zero (range_with_len 0 (2 ^ a)), ap one_if (next (length u)))
    halves (true ∷ u) ih = omega (arith, ih u, add_up_zero (range_with_len 0 (2 ^ a)), ap one_if (next (length u)))

-- THE POWERS OF A NUMBER

-- a higher power does not touch bit k
pub bit_under : (a k r : ℕ) → k < a → (r + 2 ^ a) / 2 ^ k % 2 ≡ r / 2 ^ k % 2
bit_under a k r h =
    let j : ℕ = a - k - 1 in
    let e : a ≡ suc j + k = omega arith in
    let f : 2 ^ a ≡ 2 ^ suc j * 2 ^ k = ap (λ x. 2 ^ x) e ∙ pow-add 2 (suc j) k in
    ap (λ x. (r + x) / 2 ^ k % 2) f ∙ ap (λ x. x % 2) (add-mul-div_right r (2 ^ suc j) (pow_pos k))
    ∙ ap (λ x. (r / 2 ^ k + x) % 2) (pow-suc 2 j) ∙ add-mul-mod_self_right (r / 2 ^ k) (2 ^ j) 2

pub bit_at : (a r : ℕ) → r < 2 ^ a → (r + 2 ^ a) / 2 ^ a % 2 ≡ 1
bit_at a r h =
    ap (λ x. (r + x) / 2 ^ a % 2) (sym (one-mul (2 ^ a))) ∙ ap (λ x. x % 2) (add-mul-div_right r 1 (pow_pos a))
    ∙ ap (λ x. (x + 1) % 2) (div-eq_of_lt h)

pub bit_none : (k r : ℕ) → r < 2 ^ k → r / 2 ^ k % 2 ≡ 0
bit_none k r h = ap (λ x. x % 2) (div-eq_of_lt h)

-- the powers of r + 2 ^ a are 2 ^ a and those of r
bit_apart : (a r k : ℕ) → r < 2 ^ a → one_if (k == a) + r / 2 ^ k % 2 ≡ (r + 2 ^ a) / 2 ^ k % 2
bit_apart a r k h =
    ⊎_elim
    (λ (e : k ≡ a). ap₂ (λ b j. one_if b + r / 2 ^ j % 2) (eq-eqb k a e) e ∙ ap (λ n. 1 + n) (bit_none a r h) ∙ sym (bit_at a r h) ∙ ap (λ j. (r + 2 ^ a) / 2 ^ j % 2) (sym e))
    (⊎_elim
    (λ (l : k < a). ap (λ b. one_if b + r / 2 ^ k % 2) (ne_eqb k a (λ e. omega arith)) ∙ zero_left (r / 2 ^ k % 2) ∙ sym (bit_under a k r l))
    (λ (l : a < k).
    let large : 2 ^ suc a ≤ 2 ^ k = pow_mono l in
    ap₂ (λ b n. one_if b + n) (ne_eqb k a (λ e. omega arith)) (bit_none k r (omega (arith, double a))) ∙ sym (bit_none k (r + 2 ^ a) (omega (arith, double a)))))
    (cases_order k a)
  where
    zero_left : (n : ℕ) → 0 + n ≡ n
    zero_left n = omega arith

abbrev OnceBelow : ℕ → List Bool → Type 0
OnceBelow a s = (n : ℕ) → n < 2 ^ a → tally (λ r. same_bits (group_bits a n r) s) (range_with_len 0 n) ≡ n / 2 ^ length s % 2

-- as many of the ranks below N give s as N has the power of its length: one or none
group_once : (a N : ℕ) (s : List Bool) → N < 2 ^ a → tally (λ r. same_bits (group_bits a N r) s) (range_with_len 0 N) ≡ N / 2 ^ length s % 2
group_once zero N s h =
    let e : N ≡ 0 = omega arith in
    ap (λ n. tally (λ r. same_bits (group_bits 0 N r) s) (range_with_len 0 n)) e ∙ sym (bit_none (length s) N (omega (arith, pow_pos (length s))))
group_once (suc a) N s h = ⊎_elim (small (λ n l. group_once a n s l)) (large (λ n l. group_once a n s l)) (cases_lt N (2 ^ a))
  where
    back : (i : ℕ) → 2 ^ a + i - 2 ^ a ≡ i
    back i = omega arith

    small : OnceBelow a s → N < 2 ^ a → tally (λ r. same_bits (group_bits (suc a) N r) s) (range_with_len 0 N) ≡ N / 2 ^ length s % 2
    small ih l = ap (λ (g : ℕ → List Bool). tally (λ r. same_bits (g r) s) (range_with_len 0 N)) (fun_ext (λ r. group_bits_skip a N r l)) ∙ ih N l

    large : OnceBelow a s → 2 ^ a ≤ N → tally (λ r. same_bits (group_bits (suc a) N r) s) (range_with_len 0 N) ≡ N / 2 ^ length s % 2
    large ih l =
        let M : ℕ = N - 2 ^ a in
        let whole : N ≡ 2 ^ a + M = omega arith in
        let turned : M + 2 ^ a ≡ N = omega arith in
        let less : M < 2 ^ a = omega (arith, double a) in
        ap (λ n. tally (λ r. same_bits (group_bits (suc a) N r) s) (range_with_len 0 n)) whole
        ∙ tally_parts (λ r. same_bits (group_bits (suc a) N r) s) (λ r. same_bits (in_bits a r) s) (λ r. same_bits (group_bits a M r) s) (2 ^ a) M
        (λ i k. ap (λ bs. same_bits bs s) (group_bits_here a N i l k))
        (λ i k. ap (λ bs. same_bits bs s) (group_bits_next a N (2 ^ a + i) l (omega arith) ∙ ap (group_bits a M) (back i)))
        ∙ ap₂ ◌+◌ (places_once a s) (ih M less)
        ∙ bit_apart a M (length s) less ∙ ap (λ n. n / 2 ^ length s % 2) turned

pub group_law : GroupLaw
unfolding rank_bits
group_law N h s = group_once 64 N s h
