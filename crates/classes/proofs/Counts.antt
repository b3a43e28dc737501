-- Laws of counts over lists, and of equality as a test. Assumes nothing.
use Rattle.std.proofs.Common.{◌≡◌, ℕ, suc, ◌+◌, ◌≤◌, Bool, true, false, cond, eqb, List, [], ◌∷◌, ◌++◌, map, length, filter, sym, refl, ap, ◌∙◌, subst, ap₂, arith}
use Rattle.std.specs.List.{AllByRecursion}
use Rattle.std.proofs.lemmas.Bool.{and_parts, and_from, eqb-true, eq-eqb}
use Rattle.classes.specs.Counting.{one_if, add_up, tally, same_bit, same_list, same_bits, times}

bit_true : (a b : Bool) → same_bit a b ≡ true → a ≡ b
bit_true true b h = sym h
bit_true false true h = h
bit_true false false h = refl

bit_eq : (a b : Bool) → a ≡ b → same_bit a b ≡ true
bit_eq true b h = sym h
bit_eq false true h = h
bit_eq false false h = refl

module _ {X : Type 0} (e : X → X → Bool) (true-eq : (a b : X) → e a b ≡ true → a ≡ b) (eq-true : (a b : X) → a ≡ b → e a b ≡ true) where
  list_true : (k l : List X) → same_list e k l ≡ true → k ≡ l
  list_true [] [] h = refl
  list_true [] (b ∷ l) h = absurd (let z : ◌≡◌ {A = ℕ} 0 1 = cc in omega arith)
  list_true (a ∷ k) [] h = absurd (let z : ◌≡◌ {A = ℕ} 0 1 = cc in omega arith)
  list_true (a ∷ k) (b ∷ l) h = let r = and_parts (e a b) (same_list e k l) h in ap₂ (λ c j. c ∷ j) (true-eq a b r.0) (list_true k l r.1)

  list_self : (k : List X) → same_list e k k ≡ true
  list_self [] = refl
  list_self (a ∷ k) = and_from (e a a) (same_list e k k) (eq-true a a refl) (list_self k)

pub bits_true : (s t : List Bool) → same_bits s t ≡ true → s ≡ t
bits_true s t h = list_true same_bit bit_true bit_eq s t h

pub bits_self : (s : List Bool) → same_bits s s ≡ true
bits_self s = list_self same_bit bit_true bit_eq s

pub bits_eq : (s t : List Bool) → s ≡ t → same_bits s t ≡ true
bits_eq s t h = subst (λ u. same_bits s u ≡ true) h (bits_self s)

pub word_true : (w z : List ℕ) → same_list eqb w z ≡ true → w ≡ z
word_true w z h = list_true eqb eqb-true eq-eqb w z h

pub word_self : (z : List ℕ) → same_list eqb z z ≡ true
word_self z = list_self eqb eqb-true eq-eqb z

pub word_eq : (w z : List ℕ) → w ≡ z → same_list eqb w z ≡ true
word_eq w z h = subst (λ u. same_list eqb w u ≡ true) h (word_self w)

module _ {X : Type 0} where
  pub add_up_same : (P : X → Type 0) (g h : X → ℕ) → ((x : X) → P x → g x ≡ h x) → (xs : List X) → AllByRecursion P xs → add_up g xs ≡ add_up h xs
  add_up_same P g h e [] all = refl
  add_up_same P g h e (x ∷ xs) all = ap₂ ◌+◌ (e x all.0) (add_up_same P g h e xs all.1)

  pub add_up_le : (P : X → Type 0) (g h : X → ℕ) → ((x : X) → P x → g x ≤ h x) → (xs : List X) → AllByRecursion P xs → add_up g xs ≤ add_up h xs
  add_up_le P g h e [] all = omega arith
  add_up_le P g h e (x ∷ xs) all = omega (arith, e x all.0, add_up_le P g h e xs all.1)

  pub all_of : (P : X → Type 0) → ((x : X) → P x) → (xs : List X) → AllByRecursion P xs
  all_of P h [] = tt
  all_of P h (x ∷ xs) = (h x, all_of P h xs)

  pub tally_le_length : (p : X → Bool) (xs : List X) → tally p xs ≤ length xs
  tally_le_length p [] = omega arith
  tally_le_length p (x ∷ xs) = at (p x) (tally_le_length p xs)
    where
      at : (b : Bool) → tally p xs ≤ length xs → one_if b + tally p xs ≤ suc (length xs)
      at true h = omega arith
      at false h = omega arith

  pub add_up_zero : (xs : List X) → add_up (λ x. 0) xs ≡ 0
  add_up_zero [] = refl
  add_up_zero (x ∷ xs) = omega (arith, add_up_zero xs)

  pub add_up_one : (xs : List X) → add_up (λ x. 1) xs ≡ length xs
  add_up_one [] = refl
  add_up_one (x ∷ xs) = omega (arith, add_up_one xs)

  pub add_up_add : (g h : X → ℕ) (xs : List X) → add_up (λ x. g x + h x) xs ≡ add_up g xs + add_up h xs
  add_up_add g h [] = omega arith
  add_up_add g h (x ∷ xs) = omega (arith, add_up_add g h xs)

  pub add_up_append : (g : X → ℕ) (k l : List X) → add_up g (k ++ l) ≡ add_up g k + add_up g l
  add_up_append g [] l = omega arith
  add_up_append g (x ∷ k) l = omega (arith, add_up_append g k l)

  pub add_up_map : {Y : Type 0} (g : Y → ℕ) (h : X → Y) (xs : List X) → add_up g (map h xs) ≡ add_up (λ x. g (h x)) xs
  add_up_map g h [] = refl
  add_up_map g h (x ∷ xs) = ap (λ n. g (h x) + n) (add_up_map g h xs)

  pub length_kept : (p : X → Bool) (xs : List X) → length (filter p xs) ≡ tally p xs
  length_kept p [] = refl
  length_kept p (x ∷ xs) = at (length_kept p xs) (p x)
    where
      at : length (filter p xs) ≡ tally p xs → (b : Bool) → length (cond b (x ∷ filter p xs) (filter p xs)) ≡ cond b 1 0 + tally p xs
      at ih true = omega arith
      at ih false = omega arith

-- a sum over rows is the sum over columns
pub add_up_swap : {X Y : Type 0} (g : X → Y → ℕ) (xs : List X) (ys : List Y) → add_up (λ x. add_up (λ y. g x y) ys) xs ≡ add_up (λ y. add_up (λ x. g x y) xs) ys
add_up_swap g [] ys = sym (add_up_zero ys)
add_up_swap g (x ∷ xs) ys = ap (λ n. add_up (λ y. g x y) ys + n) (add_up_swap g xs ys) ∙ sym (add_up_add (λ y. g x y) (λ y. add_up (λ z. g z y) xs) ys)

-- a filter that z passes keeps z as often as it stood there
pub times_kept : (q : List ℕ → Bool) (z : List ℕ) → q z ≡ true → (ws : List (List ℕ)) → times z (filter q ws) ≡ times z ws
times_kept q z h [] = refl
times_kept q z h (w ∷ ws) = at (times_kept q z h ws) (q w) refl (same_list eqb w z) refl
  where
    at : times z (filter q ws) ≡ times z ws → (b : Bool) → q w ≡ b → (c : Bool) → same_list eqb w z ≡ c → times z (cond b (w ∷ filter q ws) (filter q ws)) ≡ cond c 1 0 + times z ws
    at ih true p c r = ap₂ (λ d n. cond d 1 0 + n) r ih
    at ih false p true r = absurd (let e : w ≡ z = word_true w z r in let z01 : ◌≡◌ {A = ℕ} 0 1 = cc in omega arith)
    at ih false p false r = omega arith
