pub mod Counted
pub mod CountedAndRelayed
pub mod Exact
pub mod Mixed
pub mod Rows
pub mod inner
