pub mod Noding
