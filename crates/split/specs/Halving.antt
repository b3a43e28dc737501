-- A recording by halves: its codes without their last bit, and the last bits of the codes of each half; taken apart and put together. Assumes nothing.
use Rattle.std.specs.Prelude.{◌≡◌, ℕ, ◌+◌, ◌*◌, ◌/◌, ◌%◌, ◌<◌, ◌≤◌, Bool, true, false, cond, List, [], ◌∷◌, map, length, filter, ◌==◌, nat_eq, refl}
use Rattle.std.proofs.Common.{sym, ap, ap₂, ◌∙◌, ⊎_elim, arith}
use Rattle.std.proofs.lemmas.List.{length-map}
use Rattle.std.proofs.ByRecursion.{All-map}
use Rattle.std.proofs.lemmas.Bool.{cases_eq, cases_lt, eqb-true, eqb-false, eq-eqb, ne_eqb}
use Rattle.classes.specs.Counting.{one_if}
use Rattle.classes.specs.Recordings.{Codes, Recording, count}
use Rattle.classes.proofs.Counts.{all_of, tally_le_length}

abbrev pub halves : List ℕ → List ℕ
halves x = map (λ c. c / 2) x

abbrev pub lows : List ℕ → ℕ → List ℕ
lows x p = map (λ c. c % 2) (filter (λ c. nat_eq (c / 2) p) x)

-- PARTS OF A RECORDING ARE RECORDINGS

halves_codes : (n : ℕ) (x : List ℕ) → Codes (2 * n) x → Codes n (halves x)
halves_codes n [] h = tt
halves_codes n (c ∷ x) h = (omega (arith, h.0), halves_codes n x h.1)

pub halves_recorded : (n : ℕ) (x : List ℕ) → Recording (2 * n) x → Recording n (halves x)
halves_recorded n x h = (halves_codes n x h.0, omega (arith, length-map x (λ c. c / 2), h.1))

pub length_lows : (x : List ℕ) (p : ℕ) → length (lows x p) ≡ count p (halves x)
length_lows [] p = refl
length_lows (c ∷ x) p = at (c / 2 == p) (length_lows x p)
  where
    at : (b : Bool) → length (lows x p) ≡ count p (halves x) → length (map (λ a. a % 2) (cond b (c ∷ filter (λ a. nat_eq (a / 2) p) x) (filter (λ a. nat_eq (a / 2) p) x))) ≡ one_if b + count p (halves x)
    at true h = omega arith
    at false h = omega arith

pub lows_recorded : (x : List ℕ) (p : ℕ) → length x ≤ 4096 → Recording 2 (lows x p)
lows_recorded x p few =
    let own = filter (λ c. nat_eq (c / 2) p) x in (
      All-map (λ c. c < 2) (λ c. c % 2) own (all_of (λ c. c % 2 < 2) (λ c. omega arith) own),
      omega (arith, length_lows x p, tally_le_length (λ b. nat_eq b p) (halves x), length-map x (λ c. c / 2)),
    )

-- COUNTS

-- each code is counted among the last bits of its half
pub count_lows : (x : List ℕ) (c : ℕ) → count c x ≡ count (c % 2) (lows x (c / 2))
count_lows [] c = refl
count_lows (a ∷ x) c = at (a / 2 == c / 2) refl (count_lows x c)
  where
    same : a / 2 ≡ c / 2 → one_if (a == c) ≡ one_if (a % 2 == c % 2)
    same e = ⊎_elim
        (λ d. ap one_if (eq-eqb a c d ∙ sym (eq-eqb (a % 2) (c % 2) (ap (λ z. z % 2) d))))
        (λ n. ap one_if (ne_eqb a c n ∙ sym (ne_eqb (a % 2) (c % 2) (λ d. n (omega arith)))))
        (cases_eq a c)

    at : (b : Bool) → (a / 2 == c / 2) ≡ b → count c x ≡ count (c % 2) (lows x (c / 2))
        → one_if (a == c) + count c x ≡ count (c % 2) (map (λ d. d % 2) (cond b (a ∷ filter (λ d. nat_eq (d / 2) (c / 2)) x) (filter (λ d. nat_eq (d / 2) (c / 2)) x)))
    at true q h = ap₂ ◌+◌ (same (eqb-true (a / 2) (c / 2) q)) h
    at false q h = omega (arith, ap one_if (ne_eqb a c (λ d. eqb-false (a / 2) (c / 2) q (ap (λ z. z / 2) d))))

count_beyond : (m : ℕ) (x : List ℕ) (c : ℕ) → Codes m x → m ≤ c → count c x ≡ 0
count_beyond m [] c h k = refl
count_beyond m (b ∷ x) c h k = let low : b < m = h.0 in omega (arith, count_beyond m x c h.1 k, ap one_if (ne_eqb b c (λ e. omega arith)))

none_beyond : (m : ℕ) (x : List ℕ) → ((c : ℕ) → m ≤ c → count c x ≡ 0) → Codes m x
none_beyond m [] h = tt
none_beyond m (b ∷ x) h = (
  ⊎_elim (λ l. l) (λ l. absurd (omega (arith, h b l, ap one_if (eq-eqb b b refl)))) (cases_lt b m),
  none_beyond m x (λ c l. omega (arith, h c l)),
)

-- a recording with the same counts has no other codes
pub codes_kept : (m : ℕ) (x z : List ℕ) → Codes m x → ((c : ℕ) → count c z ≡ count c x) → Codes m z
codes_kept m x z h same = none_beyond m z (λ c l. same c ∙ count_beyond m x c h l)

-- PUT TOGETHER AGAIN

abbrev front : List ℕ → ℕ
front [] = 0
front (b ∷ l) = b

abbrev rest : List ℕ → List ℕ
rest [] = []
rest (b ∷ l) = l

abbrev after : ℕ → (ℕ → List ℕ) → ℕ → List ℕ
after p L q = cond (p == q) (rest (L q)) (L q)

-- the recording of the halves y and the last bits L
abbrev pub merge : List ℕ → (ℕ → List ℕ) → List ℕ
merge [] L = []
merge (p ∷ y) L = (2 * p + front (L p)) ∷ merge y (after p L)

front_low : (l : List ℕ) → Codes 2 l → front l < 2
front_low [] h = omega arith
front_low (b ∷ l) h = h.0

rest_codes : (l : List ℕ) → Codes 2 l → Codes 2 (rest l)
rest_codes [] h = tt
rest_codes (b ∷ l) h = h.1

after_codes : (p : ℕ) (L : ℕ → List ℕ) → ((q : ℕ) → Codes 2 (L q)) → (q : ℕ) → Codes 2 (after p L q)
after_codes p L h q = at (p == q)
  where
    at : (b : Bool) → Codes 2 (cond b (rest (L q)) (L q))
    at true = rest_codes (L q) (h q)
    at false = h q

pub halves_merge : (y : List ℕ) (L : ℕ → List ℕ) → ((q : ℕ) → Codes 2 (L q)) → halves (merge y L) ≡ y
halves_merge [] L h = refl
halves_merge (p ∷ y) L h =
    let half : (2 * p + front (L p)) / 2 ≡ p = omega (arith, front_low (L p) (h p)) in
    ap₂ (λ c z. c ∷ z) half (halves_merge y (after p L) (after_codes p L h))

empty : (l : List ℕ) → length l ≡ 0 → [] ≡ l
empty [] h = refl
empty (b ∷ l) h = absurd (omega arith)

front_rest : (l : List ℕ) (n : ℕ) → length l ≡ 1 + n → front l ∷ rest l ≡ l
front_rest [] n h = absurd (omega arith)
front_rest (b ∷ l) n h = refl

length_rest : (l : List ℕ) (n : ℕ) → length l ≡ 1 + n → length (rest l) ≡ n
length_rest [] n h = absurd (omega arith)
length_rest (b ∷ l) n h = omega arith

after_long : (p : ℕ) (y : List ℕ) (L : ℕ → List ℕ) → ((q : ℕ) → length (L q) ≡ count q (p ∷ y)) → (q : ℕ) → length (after p L q) ≡ count q y
after_long p y L h q = at (p == q) (h q)
  where
    at : (b : Bool) → length (L q) ≡ one_if b + count q y → length (cond b (rest (L q)) (L q)) ≡ count q y
    at true k = length_rest (L q) (count q y) k
    at false k = omega arith

pub lows_merge : (y : List ℕ) (L : ℕ → List ℕ) → ((q : ℕ) → Codes 2 (L q)) → ((q : ℕ) → length (L q) ≡ count q y) → (q : ℕ) → lows (merge y L) q ≡ L q
lows_merge [] L h long q = empty (L q) (long q)
lows_merge (p ∷ y) L h long q =
    ap (λ a. map (λ d. d % 2) (cond (a == q) (code ∷ own) own)) half ∙ at (p == q) refl (long q) (lows_merge y (after p L) (after_codes p L h) (after_long p y L long) q)
  where
    code : ℕ
    code = 2 * p + front (L p)

    own : List ℕ
    own = filter (λ d. nat_eq (d / 2) q) (merge y (after p L))

    half : code / 2 ≡ p
    half = omega (arith, front_low (L p) (h p))

    low : code % 2 ≡ front (L p)
    low = omega (arith, front_low (L p) (h p))

    at : (b : Bool) → (p == q) ≡ b → length (L q) ≡ one_if b + count q y → lows (merge y (after p L)) q ≡ cond b (rest (L q)) (L q) → map (λ d. d % 2) (cond b (code ∷ own) own) ≡ L q
    at true e k ih = ap₂ (λ a l. a ∷ l) (low ∙ ap (λ a. front (L a)) (eqb-true p q e)) ih ∙ front_rest (L q) (count q y) k
    at false e k ih = ih

pub merge_same : (n : ℕ) (y : List ℕ) (L K : ℕ → List ℕ) → Codes n y → ((q : ℕ) → q < n → L q ≡ K q) → merge y L ≡ merge y K
merge_same n [] L K h e = refl
merge_same n (p ∷ y) L K h e = ap₂ (λ l z. (2 * p + front l) ∷ z) (e p h.0) (merge_same n y (after p L) (after p K) h.1 (λ q k. ap (λ l. cond (p == q) (rest l) l) (e q k)))

pub merge_lows : (n : ℕ) (x : List ℕ) → Codes (2 * n) x → merge (halves x) (lows x) ≡ x
merge_lows n [] h = refl
merge_lows n (c ∷ x) h =
    let here : lows (c ∷ x) (c / 2) ≡ (c % 2) ∷ lows x (c / 2) = ap (λ b. map (λ a. a % 2) (cond b (c ∷ filter (λ a. nat_eq (a / 2) (c / 2)) x) (filter (λ a. nat_eq (a / 2) (c / 2)) x))) (eq-eqb (c / 2) (c / 2) refl) in
    let whole : 2 * (c / 2) + c % 2 ≡ c = omega arith in
    ap₂ (λ a z. a ∷ z) (ap (λ l. 2 * (c / 2) + front l) here ∙ whole)
    (merge_same n (halves x) (after (c / 2) (lows (c ∷ x))) (lows x) (halves_codes n x h.1) (λ q k. back q (c / 2 == q)) ∙ merge_lows n x h.1)
  where
    back : (q : ℕ) (b : Bool) → cond b (rest (map (λ a. a % 2) (cond b (c ∷ filter (λ a. nat_eq (a / 2) q) x) (filter (λ a. nat_eq (a / 2) q) x)))) (map (λ a. a % 2) (cond b (c ∷ filter (λ a. nat_eq (a / 2) q) x) (filter (λ a. nat_eq (a / 2) q) x))) ≡ lows x q
    back q true = refl
    back q false = refl
