pub mod Faults
pub mod Bits
pub mod Lanes
pub mod Piles
pub mod Calls
pub mod PairsRule
pub mod PairsEven
pub mod Rows
