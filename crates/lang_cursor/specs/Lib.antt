pub mod Arguments
pub mod Reading
pub mod Takes
pub mod Calls
