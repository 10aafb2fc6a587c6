pub mod Depths
pub mod Printing
