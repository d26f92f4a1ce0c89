pub mod CopyAnswers
pub mod MessageFronts
pub mod AnsweredRows
pub mod Talking
pub mod ShownValues
