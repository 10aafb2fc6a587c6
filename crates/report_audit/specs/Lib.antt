pub mod Findings
pub mod CountedFindings
pub mod FindingText
pub mod inner
