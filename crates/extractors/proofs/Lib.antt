pub mod Judging
pub mod Writing
pub mod Pairing
pub mod Gathers
pub mod Filing
