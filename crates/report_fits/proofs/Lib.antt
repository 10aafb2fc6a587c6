mod BlockNames
pub mod FitLines
pub mod PartedTexts
pub mod Checks
