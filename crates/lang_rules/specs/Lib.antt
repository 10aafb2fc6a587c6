pub mod Rules
pub mod Occurrences
pub mod Judgements
pub mod inner
