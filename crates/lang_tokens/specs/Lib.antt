pub mod Shapes
pub mod Spelling
pub mod Lexing
pub mod Words
pub mod inner
