pub mod Percents
pub mod Known
pub mod Reasons
pub mod Floats
pub mod Jsons
