pub mod Counting
pub mod Places
pub mod Relaying
pub mod Seats
pub mod Views
