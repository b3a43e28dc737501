-- The bits of one block are even on its count class, where the size of the class fits 64 bits. Assumes nothing.
use Rattle.std.specs.Prelude.{◌≡◌, ℕ, ◌/◌, ◌%◌, ◌^◌, ◌<◌, ◌≤◌, Bool, List, length}
use Rattle.std.proofs.Common.{sym, ap, ◌∙◌}
use Rattle.classes.specs.Counting.{one_if, tally, same_bits}
use Rattle.classes.specs.Recordings.{Recording}
use Rattle.classes.specs.Classes.{count_class, CountLike}
use Rattle.classes.specs.Evenness.{EvenOn}
use Rattle.classes.proofs.Counts.{add_up_same, add_up_map}
use Rattle.classes.proofs.Listings.{count_listing}
use Rattle.ranking.specs.Groups.{rank_bits}
use Rattle.ranking.specs.Ranks.{rank, class_size, block_bits}
use Rattle.ranking.specs.GroupRule.{group_law, rank_room}
use Rattle.ranking.specs.RanksInOrder.{like_size, ranks_in_order, rank_below}

-- how many blocks of the class give s depends on the length of s alone
pub block_count : (m : ℕ) (x : List ℕ) → Recording m x → class_size m x < 2 ^ 64 → (s : List Bool)
    → tally (λ z. same_bits (block_bits m z) s) (count_class m x) ≡ class_size m x / 2 ^ length s % 2
block_count m x h few s =
    let N = class_size m x in
    let giving : ℕ → ℕ = λ r. one_if (same_bits (rank_bits N r) s) in
    add_up_same (CountLike m x) (λ z. one_if (same_bits (block_bits m z) s)) (λ z. giving (rank m z))
    (λ z k. ap (λ n. one_if (same_bits (rank_bits n (rank m z)) s)) (like_size m x z h k)) (count_class m x) ((count_listing m).none_else x h)
    ∙ sym (add_up_map giving (rank m) (count_class m x))
    ∙ ap (tally (λ r. same_bits (rank_bits N r) s)) (ranks_in_order m x h)
    ∙ group_law N few s

pub block_even : (m : ℕ) (x : List ℕ) → Recording m x → class_size m x < 2 ^ 64 → EvenOn (block_bits m) (count_class m x)
block_even m x h few s t e = block_count m x h few s ∙ ap (λ k. class_size m x / 2 ^ k % 2) e ∙ sym (block_count m x h few t)

-- the bits of a block are no more than the class has room for
pub block_room : (m : ℕ) (x : List ℕ) → Recording m x → class_size m x < 2 ^ 64 → 2 ^ length (block_bits m x) ≤ class_size m x
block_room m x h few = rank_room (class_size m x) (rank m x) (rank_below m x h) few
