pub mod Numbers
pub mod Marks
pub mod Told
pub mod ToldParts
pub mod AsTold
pub mod Marking
pub mod Offers
