pub mod LargeInput
pub mod Laws
