-- Pairs as a ranking.
--   PairsAreBlocks   ranking with blocks of two codes gives the bits of pairs
use Rattle.std.specs.Prelude.{◌≡◌, ℕ, List}
use Rattle.classes.specs.Recordings.{Codes}
use Rattle.extractors.specs.PairsRule.{pairs}
use Rattle.ranking.specs.Blocks.{by_blocks}
use Rattle.ranking.specs.Ranks.{block_bits}

abbrev pub PairsAreBlocks : Type 0
PairsAreBlocks = (m : ℕ) (x : List ℕ) → Codes m x → by_blocks 2 (block_bits m) x ≡ pairs x
