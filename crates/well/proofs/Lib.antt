pub mod Leaning
pub mod Packs
pub mod Feeding
pub mod Holding
pub mod Tails
