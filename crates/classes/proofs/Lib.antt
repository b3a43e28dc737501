pub mod Counts
pub mod Listings
pub mod Exchanges
pub mod Widths
pub mod Yields
