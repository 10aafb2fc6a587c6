pub mod Ranges
pub mod inner
