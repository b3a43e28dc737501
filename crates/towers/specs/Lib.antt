pub mod Towers
pub mod EveryPile
pub mod TowersEven
pub mod Examples
