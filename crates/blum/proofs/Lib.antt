pub mod Loops
pub mod Placing
