pub mod WireRooms
pub mod Spreads
pub mod Entered
pub mod Closed
pub mod Kept
pub mod Shuts
pub mod Applied
pub mod Crossing
