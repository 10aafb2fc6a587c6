pub mod Committing
pub mod Hiring
pub mod Crossing
