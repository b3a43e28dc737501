pub mod SplitRule
pub mod SplitEven
pub mod Halving
