pub mod PilesOfLayers
pub mod Worked
