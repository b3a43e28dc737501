pub mod GroupWriting
pub mod BlockWriting
pub mod CoinPassing
pub mod SymbolPassing
pub mod PairsAreBlocks
