pub mod Counting
pub mod Recordings
pub mod Classes
pub mod Evenness
pub mod Exchange
