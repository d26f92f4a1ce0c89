pub mod Spelled
pub mod Lines
pub mod LineLaws
pub mod RequestsView
pub mod Session
pub mod Types
pub mod ToldView
pub mod CopiedView
