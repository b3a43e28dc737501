-- Ranking is even on every count class: for coins with blocks of at most 60, for symbols of every size with blocks of at most 20. Assumes nothing.
use Rattle.std.specs.Prelude.{ℕ, ◌≤◌}
use Rattle.std.proofs.Common.{arith}
use Rattle.classes.specs.Recordings.{Sized}
use Rattle.classes.specs.Evenness.{Even}
use Rattle.ranking.specs.Ranks.{block_bits}
use Rattle.ranking.specs.Blocks.{by_blocks}
use Rattle.ranking.specs.BlockEven.{block_even}
use Rattle.ranking.specs.BlocksEven.{EvenBlocks, blocks_even}
use Rattle.ranking.specs.CoinScan.{coin_size_fits}
use Rattle.ranking.specs.SymbolScan.{symbol_size_fits}

pub coin_blocks_even : (b : ℕ) → b ≤ 60 → EvenBlocks 2 b (block_bits 2)
coin_blocks_even b h x codes l = block_even 2 x codes (omega (arith, coin_size_fits x codes.0 (omega arith)))

pub symbol_blocks_even : (b : ℕ) → b ≤ 20 → (m : ℕ) → EvenBlocks m b (block_bits m)
symbol_blocks_even b h m x codes l = block_even m x codes (omega (arith, symbol_size_fits m x codes.0 (omega arith)))

pub coin_ranking_even : (b : ℕ) → 2 ≤ b → b ≤ 60 → Even 2 (by_blocks b (block_bits 2))
coin_ranking_even b low high = blocks_even 2 b (block_bits 2) (coin_blocks_even b high)

pub symbol_ranking_even : (b : ℕ) → 2 ≤ b → b ≤ 20 → (m : ℕ) → Sized m → Even m (by_blocks b (block_bits m))
symbol_ranking_even b low high m sized = blocks_even m b (block_bits m) (symbol_blocks_even b high m)
