-- The rank of a block in its count class, and the bits that it gives.
--   before       x comes before y in lexicographic order
--   rank         how many blocks of the count class come before the block
--   class_size   how many blocks the count class has
--   block_bits   the bits of a block by the group rule
use Rattle.std.specs.Prelude.{ℕ, Bool, true, false, ◌&&◌, ◌||◌, List, [], ◌∷◌, length, ◌==◌, nat_lt}
use Rattle.classes.specs.Counting.{tally}
use Rattle.classes.specs.Classes.{count_class}
use Rattle.ranking.specs.Groups.{rank_bits}

abbrev pub before : List ℕ → List ℕ → Bool
before [] [] = false
before [] (b ∷ y) = true
before (a ∷ x) [] = false
before (a ∷ x) (b ∷ y) = nat_lt a b || (a == b && before x y)

abbrev pub rank : ℕ → List ℕ → ℕ
rank m x = tally (λ y. before y x) (count_class m x)

abbrev pub class_size : ℕ → List ℕ → ℕ
class_size m x = length (count_class m x)

abbrev pub block_bits : ℕ → List ℕ → List Bool
block_bits m x = rank_bits (class_size m x) (rank m x)
