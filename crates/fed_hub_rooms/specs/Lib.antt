pub mod RoomHeld
pub mod Access
pub mod Turns
