pub mod Faults
pub mod Trays
pub mod Lean
pub mod Packing
pub mod Held
pub mod State
pub mod View
pub mod Steps
