pub mod Sight
pub mod Checks
