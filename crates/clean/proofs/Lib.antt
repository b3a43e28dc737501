pub mod Dealing
pub mod Hexes
pub mod Shown
pub mod InOrder
pub mod Rooms
pub mod Wants
