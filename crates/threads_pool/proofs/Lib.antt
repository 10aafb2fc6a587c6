pub mod Closing
pub mod Hiring
pub mod Crossing
