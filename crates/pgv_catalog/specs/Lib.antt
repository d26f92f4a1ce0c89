pub mod Classes
pub mod Entries
pub mod Filling
pub mod Rows
