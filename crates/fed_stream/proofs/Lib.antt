pub mod Nothing
pub mod Pieces
