pub mod Runs
pub mod Gifts
pub mod Crossing
