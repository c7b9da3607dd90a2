pub mod Keys
pub mod StandIn
pub mod Trusting
