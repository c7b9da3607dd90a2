pub mod Lanes
pub mod Entries
pub mod Journals
pub mod Placing
