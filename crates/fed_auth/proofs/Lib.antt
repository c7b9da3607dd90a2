pub mod AuthStates
pub mod Selections
pub mod Passing
pub mod Deciding
