pub mod ServerSet
pub mod ServerName
pub mod List
pub mod ListParts
pub mod Joined
pub mod JoinedParts
