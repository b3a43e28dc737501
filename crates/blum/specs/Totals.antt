-- Sums of a number for each code below n. Assumes nothing.
use Rattle.std.specs.Prelude.{◌≡◌, ℕ, zero, suc, ◌+◌, ◌<◌, ◌≤◌, cond, ◌==◌, nat_lt, refl}
use Rattle.std.proofs.Common.{sym, subst, inl, inr, arith}
use Rattle.std.proofs.lemmas.Bool.Decides.{nat_tests}
use Rattle.std.proofs.lemmas.Bool.{cases_eq, lt-ltb}

abbrev pub total : ℕ → (ℕ → ℕ) → ℕ
total zero f = 0
total (suc n) f = total n f + f n

pub total_zero : (n : ℕ) → total n (λ t. 0) ≡ 0
total_zero zero = refl
total_zero (suc n) = omega (arith, total_zero n)

pub total_same : (n : ℕ) (f g : ℕ → ℕ) → ((t : ℕ) → f t ≡ g t) → total n f ≡ total n g
total_same zero f g h = refl
total_same (suc n) f g h = omega (arith, total_same n f g h, h n)

pub total_le : (n : ℕ) (f g : ℕ → ℕ) → ((t : ℕ) → f t ≤ g t) → total n f ≤ total n g
total_le zero f g h = omega arith
total_le (suc n) f g h = omega (arith, total_le n f g h, h n)

pub total_add : (n : ℕ) (f g : ℕ → ℕ) → total n (λ t. f t + g t) ≡ total n f + total n g
total_add zero f g = omega arith
total_add (suc n) f g = omega (arith, total_add n f g)

one_if_below : (n a k : ℕ) → total n (λ t. cond (a == t) k 0) ≡ cond (nat_lt a n) k 0
one_if_below zero a k = grind (arith, nat_tests)
one_if_below (suc n) a k = let h = one_if_below n a k in grind (arith, nat_tests)

-- a sum in which one code below n counts k
pub total_one : (n a k : ℕ) → a < n → total n (λ t. cond (a == t) k 0) ≡ k
total_one n a k h = subst (λ b. total n (λ t. cond (a == t) k 0) ≡ cond b k 0) (lt-ltb a n h) (one_if_below n a k)

pub total_some : (n : ℕ) (f : ℕ → ℕ) (t : ℕ) → t < n → f t ≤ total n f
total_some zero f t h = omega arith
total_some (suc n) f t h = elim (cases_eq n t) [
  | inl e ↦ subst (λ u. f u ≤ total n f + f n) e (omega arith)
  | inr ne ↦ (let k : t < n = omega arith in omega (arith, total_some n f t k))
]

-- the sum up to and with t is no more than the whole
pub total_up : (t n : ℕ) (f : ℕ → ℕ) → t < n → total t f + f t ≤ total n f
total_up t zero f h = absurd (omega arith)
total_up t (suc n) f h = elim (cases_eq t n) [
  | inl e ↦ subst (λ k. total k f + f k ≤ total n f + f n) (sym e) (omega arith)
  | inr ne ↦ (let k : t < n = omega arith in omega (arith, total_up t n f k))
]
