pub mod Asking
pub mod Pruning
