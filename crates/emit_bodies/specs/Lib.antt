pub mod Blocks
pub mod Guards
pub mod Statements
pub mod Traces
pub mod Bodies
pub mod Laws
pub mod inner
