pub mod PlacedTexts
pub mod SmallReports
pub mod Fronts
pub mod KeptLines
pub mod NoteLines
pub mod PlanParts
pub mod ReportParts
mod PrintedReports
mod TypedNumbers
pub mod ProofLines
mod NumberedLines
