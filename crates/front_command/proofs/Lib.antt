pub mod Written
pub mod Asking
pub mod Words
