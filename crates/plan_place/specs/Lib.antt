pub mod Exact
pub mod Relayed
pub mod inner
