mod Lists
pub mod Marking
mod Marked
mod Rising
mod Seen
