pub mod Machines
pub mod Sections
pub mod inner
