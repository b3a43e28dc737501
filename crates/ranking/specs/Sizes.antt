-- The size of a class, for coins and for symbols.
--   CoinSizes     the class of a block of coins: a binomial, the length over the number of ones
--   SymbolSizes   the class of a block of any size: the factorial of the length divided by that of each code's count
use Rattle.std.specs.Prelude.{◌≡◌, ℕ, List, length}
use Rattle.classes.specs.Recordings.{Codes, count}
use Rattle.ranking.specs.Binomials.{choose}
use Rattle.ranking.specs.Factorials.{Multinomial}
use Rattle.ranking.specs.Ranks.{class_size}

abbrev pub CoinSizes : Type 0
CoinSizes = (x : List ℕ) → Codes 2 x → class_size 2 x ≡ choose (length x) (count 1 x)

abbrev pub SymbolSizes : Type 0
SymbolSizes = (m : ℕ) (x : List ℕ) → Codes m x → Multinomial m x (class_size m x)
