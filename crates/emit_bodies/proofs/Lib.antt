pub mod TakenTexts
pub mod GuardTexts
pub mod Depths
pub mod StatementTexts
pub mod Turns
pub mod BodyTexts
pub mod BlockNames
