pub mod Composites
pub mod EnumLabels
pub mod Newtypes
pub mod Plains
