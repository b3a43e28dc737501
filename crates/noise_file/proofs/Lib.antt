pub mod Files
pub mod Firsts
pub mod Readings
