pub mod Calls
pub mod Widths
pub mod Tests
pub mod Laws
