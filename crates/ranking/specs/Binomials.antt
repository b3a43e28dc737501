-- Binomials by Pascal's rule.
--   choose   in how many ways k of n places can be chosen
use Rattle.std.specs.Prelude.{ℕ, zero, suc, ◌+◌}

unfoldable pub choose : ℕ → ℕ → ℕ
choose n zero = 1
choose zero (suc k) = 0
choose (suc n) (suc k) = choose n k + choose n (suc k)
