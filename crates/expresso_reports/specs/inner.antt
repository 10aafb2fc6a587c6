pub mod Auditing
pub mod Explaining
pub mod Fitting
pub mod Judging
pub mod Saying
