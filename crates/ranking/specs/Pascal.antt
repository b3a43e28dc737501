-- The rows of Pascal's triangle one after the other, and what stands at each place: the table, by one computed test. Assumes nothing.
use Rattle.std.specs.Prelude.{◌≡◌, ℕ, zero, suc, ◌+◌, ◌-◌, ◌*◌, ◌/◌, ◌<◌, ◌≤◌, Bool, true, false, T, List, [], ◌∷◌, ◌++◌, length, ◌==◌, slice_index, refl}
use Rattle.std.proofs.Common.{ap, sym, ◌∙◌, subst, add-zero, zero-add, add-suc, suc-add, le_of_suc-le-suc, not-suc-le-zero, arith, eqb→eq}
use Rattle.std.proofs.lemmas.List.{get_or_append_left, get_or-append_right}
use Rattle.ranking.specs.Binomials.{choose}

abbrev pub sums : ℕ → List ℕ → List ℕ
sums a [] = a ∷ []
sums a (b ∷ r) = (a + b) ∷ sums b r

abbrev pub row : ℕ → List ℕ
row zero = 1 ∷ []
row (suc n) = sums 0 (row n)

abbrev pub flat : ℕ → List ℕ → List ℕ
flat zero r = []
flat (suc m) r = r ++ flat m (sums 0 r)

-- where row j + n begins, counted from row j
abbrev pub off : ℕ → ℕ → ℕ
off j zero = 0
off j (suc n) = suc j + off (suc j) n

sums_first : (a : ℕ) (r : List ℕ) → slice_index (sums a r) zero ≡ a + slice_index r zero
sums_first a [] = sym (add-zero a)
sums_first a (b ∷ r) = refl

sums_next : (a : ℕ) (r : List ℕ) (k : ℕ) → slice_index (sums a r) (suc k) ≡ slice_index r k + slice_index r (suc k)
sums_next a [] k = refl
sums_next a (b ∷ r) zero = sums_first b r
sums_next a (b ∷ r) (suc k) = sums_next b r k

sums_length : (a : ℕ) (r : List ℕ) → length (sums a r) ≡ suc (length r)
sums_length a [] = refl
sums_length a (b ∷ r) = ap suc (sums_length b r)

pub row_length : (n : ℕ) → length (row n) ≡ suc n
row_length zero = refl
row_length (suc n) = sums_length 0 (row n) ∙ ap suc (row_length n)

pub row_choose : (n k : ℕ) → slice_index (row n) k ≡ choose n k
unfolding choose
row_choose zero zero = refl
row_choose zero (suc k) = refl
row_choose (suc n) zero = sums_first 0 (row n) ∙ zero-add (slice_index (row n) zero) ∙ row_choose n zero
row_choose (suc n) (suc k) =
    sums_next 0 (row n) k ∙ ap (λ x. x + slice_index (row n) (suc k)) (row_choose n k) ∙ ap (λ x. choose n k + x) (row_choose n (suc k))

pub flat_row : (m n j k : ℕ) → n < m → k ≤ j + n → slice_index (flat m (row j)) (off j n + k) ≡ slice_index (row (j + n)) k
flat_row zero n j k h l = absurd (not-suc-le-zero h)
flat_row (suc m) zero j k h l =
    let e : k < length (row j) = omega (arith, row_length j) in
    ap (λ x. slice_index (row j ++ flat m (row (suc j))) x) (zero-add k)
    ∙ get_or_append_left (row j) (flat m (row (suc j))) 0 k e ∙ ap (λ x. slice_index (row x) k) (sym (add-zero j))
flat_row (suc m) (suc n) j k h l =
    let e : suc j + off (suc j) n + k - suc j ≡ off (suc j) n + k = omega arith in
    get_or-append_right (row j) (flat m (row (suc j))) (suc j) (suc j + off (suc j) n + k) 0 (row_length j) (omega arith)
    ∙ ap (λ x. slice_index (flat m (row (suc j))) x) e ∙ flat_row m n (suc j) k (le_of_suc-le-suc h) (omega arith)
    ∙ ap (λ x. slice_index (row x) k) (suc-add j n ∙ sym (add-suc j n))

-- the offset by its formula, a test at each row that antt computes
abbrev both : Bool → Bool → Bool
both true b = b
both false b = false

both_left : (a b : Bool) → T (both a b) → T a
both_left true b t = tt
both_left false b t = t

both_right : (a b : Bool) → T (both a b) → T b
both_right true b t = t
both_right false b t = absurd t

abbrev each : (ℕ → Bool) → ℕ → ℕ → Bool
each f i zero = true
each f i (suc m) = both (f i) (each f (suc i) m)

each_at : (f : ℕ → Bool) (m i : ℕ) → T (each f i m) → (k : ℕ) → k < m → T (f (i + k))
each_at f zero i t k h = absurd (not-suc-le-zero h)
each_at f (suc m) i t zero h = subst (λ (n : ℕ). T (f n)) (sym (add-zero i)) (both_left (f i) (each f (suc i) m) t)
each_at f (suc m) i t (suc k) h =
    subst (λ (n : ℕ). T (f n)) (suc-add i k ∙ sym (add-suc i k)) (each_at f m (suc i) (both_right (f i) (each f (suc i) m) t) k (le_of_suc-le-suc h))

abbrev right : ℕ → Bool
right n = off 0 n == n * (n + 1) / 2

pub off_is : (n : ℕ) → n ≤ 60 → off 0 n ≡ n * (n + 1) / 2
off_is n h =
    eqb→eq (off 0 n) (n * (n + 1) / 2) (subst (λ (m : ℕ). T (right m)) (zero-add n) (each_at right 61 0 tt n (omega arith)))

pub entry : (n k : ℕ) → k ≤ n → n ≤ 60 → slice_index (flat 61 (1 ∷ [])) (n * (n + 1) / 2 + k) ≡ choose n k
entry n k l h =
    ap (λ x. slice_index (flat 61 (1 ∷ [])) (x + k)) (sym (off_is n h))
    ∙ flat_row 61 n 0 k (omega arith) (omega arith) ∙ ap (λ x. slice_index (row x) k) (zero-add n) ∙ row_choose n k

-- no more places can be chosen than there are
pub choose_over : (n k : ℕ) → n < k → choose n k ≡ 0
unfolding choose
choose_over n zero h = absurd (omega arith)
choose_over zero (suc k) h = refl
choose_over (suc n) (suc k) h = omega (arith, choose_over n k (omega arith), choose_over n (suc k) (omega arith))
