pub mod FrameCounts
pub mod Cut
pub mod Places
pub mod DataRows
pub mod Descriptions
pub mod ColumnFormats
pub mod OnePass
