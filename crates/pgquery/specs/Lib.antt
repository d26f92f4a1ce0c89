pub mod Copying
pub mod Incoming
pub mod RowLines
pub mod Statement
pub mod Talks
