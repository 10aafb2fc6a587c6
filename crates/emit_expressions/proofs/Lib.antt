pub mod Meanings
pub mod ValueTexts
pub mod Numbered
pub mod Written
