mod TiedForms
pub mod GuardRows
pub mod Answering
mod Measured
mod GuardCuts
