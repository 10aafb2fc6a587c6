pub mod Answering
pub mod Completeness
pub mod Promised
pub mod GivenWords
pub mod ProgramEnded
pub mod OneReport
pub mod Compiled
pub mod Emitted
