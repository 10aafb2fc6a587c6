pub mod Lists
pub mod Backed
