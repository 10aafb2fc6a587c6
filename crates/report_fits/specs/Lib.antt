pub mod FitTexts
pub mod FitParts
pub mod FitReadings
pub mod FitVerdicts
pub mod FitReasons
pub mod FitReasonTexts
pub mod inner
