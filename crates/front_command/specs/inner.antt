pub mod Given
pub mod Asked
