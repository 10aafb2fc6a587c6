pub mod Parts
pub mod Branches
