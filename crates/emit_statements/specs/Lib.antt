pub mod Ways
pub mod Sources
pub mod Conditions
pub mod Statements
pub mod inner
