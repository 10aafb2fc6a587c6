pub mod ProgramEnds
pub mod Headline
pub mod ReportedRuns
