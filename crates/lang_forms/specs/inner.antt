pub mod FormBounds
pub mod Parts
