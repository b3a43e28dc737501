-- Factorials, and the size of a class by them.
--   factorial         1 times 2 times 3, up to n
--   product_below     the product of a number for each code below m
--   count_factorial   the product of the factorials of the counts of a block's codes
--   Multinomial       N is the factorial of the block's length divided by that of each code's count, without remainder
use Rattle.std.specs.Prelude.{◌≡◌, ℕ, zero, suc, ◌*◌, List, length}
use Rattle.classes.specs.Recordings.{count}

abbrev pub factorial : ℕ → ℕ
factorial zero = 1
factorial (suc n) = suc n * factorial n

abbrev pub product_below : ℕ → (ℕ → ℕ) → ℕ
product_below zero f = 1
product_below (suc m) f = product_below m f * f m

abbrev pub count_factorial : ℕ → List ℕ → ℕ
count_factorial m x = product_below m (λ c. factorial (count c x))

abbrev pub Multinomial : ℕ → List ℕ → ℕ → Type 0
Multinomial m x N = N * count_factorial m x ≡ factorial (length x)
