pub mod Reading
pub mod Printed
pub mod Digests
pub mod Sent
pub mod Statuses
