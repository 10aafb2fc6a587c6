pub mod Numbers
pub mod Starts
pub mod Edges
