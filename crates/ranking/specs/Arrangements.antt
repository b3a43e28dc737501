-- The words that hold each code a given number of times: as many as the factorial of the length divided by those of the
-- counts, and how many of them begin with a code. Assumes nothing.
use Rattle.std.specs.Prelude.{◌≡◌, ℕ, zero, suc, ◌+◌, ◌-◌, ◌*◌, ◌^◌, ◌<◌, ◌≤◌, Bool, true, false, ◌&&◌, List, [], ◌∷◌, ◌==◌, ◌≢◌, nat_eq, refl}
use Rattle.std.proofs.Common.{sym, ◌∙◌, ap, ap₂, ⊎_elim, add-zero, zero-mul, mul-zero, mul-one, mul_comm, mul_assoc, mul_left_comm, mul-pos, mul-le-mul, mul-le-mul_left, mul-le-mul_right, pow-suc, arith, pow-add, pow_mono}
use Rattle.std.proofs.Math.Bool.{and-false}
use Rattle.std.proofs.Math.Nat.{eq_of_mul-eq-mul_right}
use Rattle.std.proofs.lemmas.Bool.{eq-eqb, ne_eqb, cases_lt, cases_eq}
use Rattle.std.proofs.lemmas.Bool.Decides.{nat_tests}
use Rattle.classes.specs.Counting.{one_if, tally}
use Rattle.classes.specs.Recordings.{count}
use Rattle.classes.specs.Classes.{words, agree}
use Rattle.ranking.specs.Factorials.{factorial, product_below}
use Rattle.ranking.specs.Scans.{sum_below, sum_same, sum_mul, tally_same, tally_none, tally_led}

-- the word y holds each code c below m as often as cs c says
abbrev pub has_counts : ℕ → (ℕ → ℕ) → List ℕ → Bool
has_counts m cs y = agree m (λ c. count c y) cs

abbrev pub arrangements : ℕ → ℕ → (ℕ → ℕ) → ℕ
arrangements m n cs = tally (has_counts m cs) (words m n)

-- the product of the factorials of the counts
abbrev pub factorials : ℕ → (ℕ → ℕ) → ℕ
factorials m cs = product_below m (λ c. factorial (cs c))

-- the counts with one d fewer
abbrev pub less : ℕ → (ℕ → ℕ) → ℕ → ℕ
less d cs c = cs c - one_if (d == c)

-- ONE CODE LESS

flag_same : (c : ℕ) → one_if (c == c) ≡ 1
flag_same c = ap one_if (eq-eqb c c refl)

flag_other : (k c : ℕ) → (k ≢ c) → one_if (c == k) ≡ 0
flag_other k c ne = ap one_if (ne_eqb c k (λ e. ne (sym e)))

eqb_minus : (x b t : ℕ) → b ≤ x → (b + t == x) ≡ (t == x - b)
eqb_minus x b t h = grind (arith, nat_tests)

eqb_never : (x b t : ℕ) → x < b → (b + t == x) ≡ false
eqb_never x b t h = ne_eqb (b + t) x (λ e. omega arith)

flag_under : (cs : ℕ → ℕ) (c k : ℕ) → 0 < cs c → one_if (c == k) ≤ cs k
flag_under cs c k h =
    ⊎_elim
    (λ (e : k ≡ c). let f : cs k ≡ cs c = ap cs e in let g : one_if (c == k) ≡ 1 = ap (λ j. one_if (c == j)) e ∙ flag_same c in omega arith)
    (λ ne. omega (arith, flag_other k c ne)) (cases_eq k c)

-- a word that begins with c: its rest has one c fewer
counts_less : (m c : ℕ) (cs : ℕ → ℕ) (l : List ℕ) → 0 < cs c → has_counts m cs (c ∷ l) ≡ has_counts m (less c cs) l
counts_less zero c cs l h = refl
counts_less (suc m) c cs l h = ap₂ ◌&&◌ (eqb_minus (cs m) (one_if (c == m)) (count m l) (flag_under cs c m h)) (counts_less m c cs l h)

counts_none : (m c : ℕ) (cs : ℕ → ℕ) (l : List ℕ) → c < m → cs c ≡ 0 → has_counts m cs (c ∷ l) ≡ false
counts_none zero c cs l b e = absurd (omega arith)
counts_none (suc m) c cs l b e =
    ⊎_elim
    (λ (k : c < m). ap (λ r. (count m (c ∷ l) == cs m) && r) (counts_none m c cs l k e) ∙ and-false _)
    (λ (k : m ≤ c). let d : m ≡ c = omega arith in
    let f : one_if (c == m) ≡ 1 = ap (λ j. one_if (c == j)) d ∙ flag_same c in
    let g : cs m ≡ 0 = ap cs d ∙ e in
    ap (λ r. r && has_counts m cs (c ∷ l)) (eqb_never (cs m) (one_if (c == m)) (count m l) (omega arith)))
    (cases_lt c m)

less_other : (c k : ℕ) (cs : ℕ → ℕ) → (k ≢ c) → cs k ≡ less c cs k
less_other c k cs ne = omega (arith, flag_other k c ne)

less_here : (c : ℕ) (cs : ℕ → ℕ) → less c cs c ≡ cs c - 1
less_here c cs = omega (arith, flag_same c)

factorial_down : (x : ℕ) → 0 < x → factorial x ≡ x * factorial (x - 1)
factorial_down zero h = absurd (omega arith)
factorial_down (suc x) h = let e : x ≡ suc x - 1 = omega arith in ap (λ k. suc x * factorial k) e

factorials_same : (m : ℕ) (cs ds : ℕ → ℕ) → ((k : ℕ) → k < m → cs k ≡ ds k) → factorials m cs ≡ factorials m ds
factorials_same zero cs ds e = refl
factorials_same (suc m) cs ds e = ap₂ ◌*◌ (factorials_same m cs ds (λ k h. e k (omega arith))) (ap factorial (e m (omega arith)))

factorials_less : (m c : ℕ) (cs : ℕ → ℕ) → c < m → 0 < cs c → factorials m cs ≡ cs c * factorials m (less c cs)
factorials_less zero c cs b h = absurd (omega arith)
factorials_less (suc m) c cs b h =
    ⊎_elim
    (λ (k : c < m).
    ap₂ ◌*◌ (factorials_less m c cs k h) (ap factorial (less_other c m cs (λ e. omega arith)))
    ∙ mul_assoc (cs c) (factorials m (less c cs)) (factorial (less c cs m)))
    (λ (k : m ≤ c). let d : c ≡ m = omega arith in
    ap₂ ◌*◌ (factorials_same m cs (less c cs) (λ j l. less_other c j cs (λ e. omega arith)))
    (ap (λ j. factorial (cs j)) (sym d) ∙ factorial_down (cs c) h ∙ ap (λ x. cs c * factorial x) (sym (less_here c cs) ∙ ap (less c cs) d))
    ∙ mul_left_comm (factorials m (less c cs)) (cs c) (factorial (less c cs m)))
    (cases_lt c m)

total_less : (m c : ℕ) (cs : ℕ → ℕ) → c < m → 0 < cs c → sum_below m cs ≡ suc (sum_below m (less c cs))
total_less zero c cs b h = absurd (omega arith)
total_less (suc m) c cs b h =
    ⊎_elim
    (λ (k : c < m). let e : cs m ≡ less c cs m = less_other c m cs (λ e. omega arith) in omega (arith, total_less m c cs k h, e))
    (λ (k : m ≤ c). let d : m ≡ c = omega arith in
    let e : sum_below m cs ≡ sum_below m (less c cs) = sum_same cs (less c cs) m (λ j l. less_other c j cs (λ e. omega arith)) in
    let f : less c cs m ≡ cs c - 1 = ap (less c cs) d ∙ less_here c cs in
    let g : cs m ≡ cs c = ap cs d in
    omega arith)
    (cases_lt c m)

-- THE MULTINOMIAL

nothing : (m : ℕ) (cs : ℕ → ℕ) → sum_below m cs ≡ 0 → (has_counts m cs [] ≡ true) × (factorials m cs ≡ 1)
nothing zero cs e = (refl, refl)
nothing (suc m) cs e =
    let r = nothing m cs (omega arith) in
    let z : cs m ≡ 0 = omega arith in
    (ap₂ ◌&&◌ (ap (λ x. nat_eq 0 x) z) r.0, ap₂ (λ x y. x * factorial y) r.1 z)

pub multinomial : (m n : ℕ) (cs : ℕ → ℕ) → sum_below m cs ≡ n → arrangements m n cs * factorials m cs ≡ factorial n
multinomial m zero cs e = let r = nothing m cs e in ap₂ (λ b k. (one_if b + 0) * k) r.0 r.1
multinomial m (suc n) cs e =
    ap (λ x. x * factorials m cs) (tally_led (has_counts m cs) m (words m n))
    ∙ sum_mul (λ c. tally (λ l. has_counts m cs (c ∷ l)) (words m n)) (factorials m cs) m
    ∙ sum_same (λ c. tally (λ l. has_counts m cs (c ∷ l)) (words m n) * factorials m cs) (λ c. cs c * factorial n) m (each (λ ds d. multinomial m n ds d))
    ∙ sym (sum_mul cs (factorial n) m) ∙ ap (λ x. x * factorial n) e
  where
    each : ((ds : ℕ → ℕ) → sum_below m ds ≡ n → arrangements m n ds * factorials m ds ≡ factorial n)
        → (c : ℕ) → c < m → tally (λ l. has_counts m cs (c ∷ l)) (words m n) * factorials m cs ≡ cs c * factorial n
    each ih c b =
        ⊎_elim
        (λ (p : 0 < cs c).
        ap₂ ◌*◌ (tally_same _ _ (λ l. counts_less m c cs l p) (words m n)) (factorials_less m c cs b p)
        ∙ mul_left_comm (arrangements m n (less c cs)) (cs c) (factorials m (less c cs))
        ∙ ap (λ x. cs c * x) (ih (less c cs) (omega (arith, total_less m c cs b p))))
        (λ (p : cs c ≤ 0). let z : cs c ≡ 0 = omega arith in
        ap (λ x. x * factorials m cs) (tally_none _ (λ l. counts_none m c cs l b z) (words m n))
        ∙ zero-mul (factorials m cs) ∙ sym (ap (λ x. x * factorial n) z ∙ zero-mul (factorial n)))
        (cases_lt 0 (cs c))

factorial_pos : (n : ℕ) → 0 < factorial n
factorial_pos zero = omega arith
factorial_pos (suc n) = mul-pos (omega arith) (factorial_pos n)

factorials_pos : (m : ℕ) (cs : ℕ → ℕ) → 0 < factorials m cs
factorials_pos zero cs = omega arith
factorials_pos (suc m) cs = mul-pos (factorials_pos m cs) (factorial_pos (cs m))

-- the arrangements that begin with c, from all of them: a product and a quotient without remainder
pub begin_with : (m n c : ℕ) (cs : ℕ → ℕ) → sum_below m cs ≡ suc n → c < m
    → arrangements m (suc n) cs * cs c ≡ tally (λ l. has_counts m cs (c ∷ l)) (words m n) * suc n
begin_with m n c cs e b =
    ⊎_elim
    (λ (p : 0 < cs c).
    let F = factorials m (less c cs) in
    let A = arrangements m (suc n) cs in
    let B = arrangements m n (less c cs) in
    let all : A * factorials m cs ≡ suc n * factorial n = multinomial m (suc n) cs e in
    let rest : B * F ≡ factorial n = multinomial m n (less c cs) (omega (arith, total_less m c cs b p)) in
    eq_of_mul-eq-mul_right F (factorials_pos m (less c cs)) (A * cs c) (tally (λ l. has_counts m cs (c ∷ l)) (words m n) * suc n)
    (mul_assoc A (cs c) F ∙ ap (λ x. A * x) (sym (factorials_less m c cs b p)) ∙ all ∙ ap (λ x. suc n * x) (sym rest)
    ∙ sym (mul_assoc (suc n) B F) ∙ ap (λ x. x * F) (mul_comm (suc n) B)
    ∙ ap (λ x. x * suc n * F) (sym (tally_same _ _ (λ l. counts_less m c cs l p) (words m n)))))
    (λ (p : cs c ≤ 0). let z : cs c ≡ 0 = omega arith in
    ap (λ x. arrangements m (suc n) cs * x) z ∙ mul-zero _
    ∙ sym (ap (λ x. x * suc n) (tally_none _ (λ l. counts_none m c cs l b z) (words m n)) ∙ zero-mul (suc n)))
    (cases_lt 0 (cs c))

-- HOW MANY AT MOST

pub arrangements_under : (m n : ℕ) (cs : ℕ → ℕ) → sum_below m cs ≡ n → arrangements m n cs ≤ factorial n
arrangements_under m n cs e =
    omega (arith, mul-le-mul_left (arrangements m n cs) (factorials_pos m cs), mul-one (arrangements m n cs), multinomial m n cs e)

factorial_more : (n k : ℕ) → factorial n ≤ factorial (n + k)
factorial_more n zero = omega (arith, ap factorial (add-zero n))
factorial_more n (suc k) =
    let e : n + suc k ≡ suc (n + k) = omega arith in
    let f : factorial (n + suc k) ≡ suc (n + k) * factorial (n + k) = ap factorial e in
    let one : 1 ≤ suc (n + k) = omega arith in
    let g : 1 * factorial (n + k) ≤ suc (n + k) * factorial (n + k) = mul-le-mul_right (factorial (n + k)) one in
    omega (arith, factorial_more n k, f, g)

pub factorial_mono : (n k : ℕ) → n ≤ k → factorial n ≤ factorial k
factorial_mono n k h = let e : n + (k - n) ≡ k = omega arith in omega (arith, factorial_more n (k - n), ap factorial e)

-- twice a factorial is at least the power of two
factorial_reach : (k : ℕ) → 2 ^ k ≤ factorial k * 2
factorial_reach zero = omega arith
factorial_reach (suc zero) = omega arith
factorial_reach (suc (suc k)) =
    let ih : 2 ^ suc k ≤ factorial (suc k) * 2 = factorial_reach (suc k) in
    let double : 2 ^ suc (suc k) ≡ 2 ^ suc k * 2 = pow-suc 2 (suc k) in
    let two : 2 ≤ suc (suc k) = omega arith in
    let more : 2 * factorial (suc k) ≤ suc (suc k) * factorial (suc k) = mul-le-mul_right (factorial (suc k)) two in
    omega arith

-- n codes of m kinds: the factorials of the counts are at least 2 to the power n - m
factorials_reach : (m : ℕ) (cs : ℕ → ℕ) → 2 ^ sum_below m cs ≤ factorials m cs * 2 ^ m
factorials_reach zero cs = omega arith
factorials_reach (suc m) cs =
    let F = factorials m cs in
    let f = factorial (cs m) in
    let both : 2 ^ sum_below m cs * 2 ^ cs m ≤ F * 2 ^ m * (f * 2) = mul-le-mul (factorials_reach m cs) (factorial_reach (cs m)) in
    let left : 2 ^ (sum_below m cs + cs m) ≡ 2 ^ sum_below m cs * 2 ^ cs m = pow-add 2 (sum_below m cs) (cs m) in
    let right : F * 2 ^ m * (f * 2) ≡ F * f * 2 ^ suc m =
    mul_assoc F (2 ^ m) (f * 2) ∙ ap (λ x. F * x) (mul_left_comm (2 ^ m) f 2 ∙ ap (λ x. f * x) (sym (pow-suc 2 m))) ∙ sym (mul_assoc F f (2 ^ suc m)) in
    omega (arith, both, left, right)

-- at most 20 codes of at most 16 kinds: the arrangements times the length fit 64 bits
pub arrangements_fit : (m n : ℕ) (cs : ℕ → ℕ) → m ≤ 16 → n ≤ 20 → sum_below m cs ≡ n → arrangements m n cs * n < 2 ^ 64
arrangements_fit m n cs few short e =
    ⊎_elim
    (λ (l : n < 20).
    let small : A ≤ 121645100408832000 = omega (arith, arrangements_under m n cs e, factorial_mono n 19 (omega arith)) in
    let nineteen : n ≤ 19 = omega arith in
    let both : A * n ≤ 121645100408832000 * 19 = mul-le-mul small nineteen in
    omega arith)
    (λ (l : 20 ≤ n).
    let twenty : n ≡ 20 = omega arith in
    let power : 2 ^ sum_below m cs ≡ 2 ^ 20 = ap (λ k. 2 ^ k) (e ∙ twenty) in
    let kinds : 2 ^ m ≤ 2 ^ 16 = pow_mono few in
    let more : F * 2 ^ m ≤ F * 2 ^ 16 = mul-le-mul_left F kinds in
    let reach : 16 ≤ F = omega (arith, factorials_reach m cs) in
    let all : A * 16 ≤ A * F = mul-le-mul_left A reach in
    let whole : A * F ≡ 2432902008176640000 = multinomial m n cs e ∙ ap factorial twenty in
    let times : A * n ≡ A * 20 = ap (λ k. A * k) twenty in
    omega arith)
    (cases_lt n 20)
  where
    A : ℕ
    A = arrangements m n cs

    F : ℕ
    F = factorials m cs
