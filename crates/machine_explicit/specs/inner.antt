pub mod Positions
pub mod Waiting
pub mod Rings
