pub mod ReportTexts
pub mod Readings
pub mod Fronts
pub mod inner
pub mod EasyPlacements
pub mod Lines
