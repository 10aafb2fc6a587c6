pub mod Backward
pub mod Negatable
pub mod Choices
pub mod Movable
