pub mod CountedReports
pub mod CountedReadings
pub mod CountedVerdicts
pub mod CountedTexts
pub mod EasyCountings
pub mod UncountedReports
pub mod inner
