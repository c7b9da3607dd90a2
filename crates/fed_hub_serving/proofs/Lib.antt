pub mod WireRooms
pub mod Spreads
pub mod Sent
pub mod Wiring
pub mod Takes
pub mod Repeats
pub mod KeptStates
pub mod Replies
