pub mod Selecting
pub mod Redacting
pub mod KeyAmong
pub mod Parts
pub mod Building
pub mod IdTexts
pub mod Covering
