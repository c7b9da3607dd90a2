pub mod Fronts
pub mod Comparing
pub mod Prefixes
pub mod Walks
pub mod Members
pub mod Destinations
mod Each
mod ById
mod InRooms
mod InPlaces
mod SameIds
mod Arrivals
mod PlacesById
