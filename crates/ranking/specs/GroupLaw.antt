-- The law of the group rule, of ranks alone: no bit string is given more often than another of its length.
--   GroupLaw   of the ranks below N, one gives the bit string s where N has the power 2 ^ (length of s) in its binary form, and else none
use Rattle.std.specs.Prelude.{◌≡◌, ℕ, ◌/◌, ◌%◌, ◌^◌, ◌<◌, Bool, List, length}
use Rattle.std.specs.List.{range_with_len}
use Rattle.classes.specs.Counting.{tally, same_bits}
use Rattle.ranking.specs.Groups.{rank_bits}

-- bit k of N is N / 2 ^ k % 2
abbrev pub GroupLaw : Type 0
GroupLaw = (N : ℕ) → N < 2 ^ 64 → (s : List Bool) → tally (λ r. same_bits (rank_bits N r) s) (range_with_len 0 N) ≡ N / 2 ^ length s % 2
