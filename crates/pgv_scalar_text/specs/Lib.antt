pub mod IntText
pub mod ScalarText
pub mod FieldText
pub mod DateTimeText
pub mod AddressText
pub mod NetworkText
