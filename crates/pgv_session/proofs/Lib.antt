pub mod Wording
pub mod SplitLines
pub mod OidWords
pub mod HexTexts
mod NameTexts
pub mod CopySteps
pub mod LineSpellings
pub mod InputLines
pub mod Feeds
pub mod Refusals
