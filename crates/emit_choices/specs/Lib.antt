pub mod Declarations
pub mod Fixed
pub mod Lists
pub mod Openings
pub mod Starts
