pub mod Branches
pub mod Deciding
pub mod Texts
