pub mod Numbered
mod Runs
mod Lasts
mod Cuts
