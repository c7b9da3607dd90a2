pub mod Received
pub mod Left
pub mod OfJournal
pub mod Sent
pub mod Answered
pub mod Brought
pub mod Unfound
