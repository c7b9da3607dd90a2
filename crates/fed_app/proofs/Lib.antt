pub mod WordLemmas
pub mod LineLemmas
pub mod Limit
pub mod Reached
pub mod Newlines
mod Setups
pub mod SimEnds
