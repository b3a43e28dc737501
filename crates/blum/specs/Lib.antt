pub mod PilesEven
pub mod PileTheorems
pub mod BlumEven
pub mod Totals
pub mod Lanes
pub mod Walks
pub mod Keeps
pub mod Flat
