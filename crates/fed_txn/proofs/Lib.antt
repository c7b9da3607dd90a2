pub mod Entries
pub mod Poured
pub mod Replies
pub mod Bodies
mod BodyText
pub mod SentBodies
pub mod RepliesRead
