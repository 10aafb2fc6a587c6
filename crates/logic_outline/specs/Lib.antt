pub mod Outlines
pub mod Readings
pub mod inner
