pub mod Deadlines
pub mod Serving
