pub mod Moves
pub mod Gathered
