mod Names
pub mod Halving
mod Lists
mod Joinings
pub mod Stays
