pub mod Parts
pub mod Keeping
