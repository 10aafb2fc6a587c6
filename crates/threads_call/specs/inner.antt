pub mod Attempts
pub mod Callings
