pub mod Classes
pub mod Signs
pub mod Keywords
pub mod Pieces
pub mod Cutting
pub mod Identifiers
pub mod Numerals
pub mod Digits
