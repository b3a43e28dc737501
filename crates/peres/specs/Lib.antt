pub mod PeresRule
pub mod Fills
pub mod PeresEven
pub mod Pairwise
