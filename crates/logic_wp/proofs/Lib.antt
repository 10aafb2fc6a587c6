mod BodyParts
mod StepNodes
mod StepParts
mod BlockPaths
pub mod BodyStates
pub mod Fitting
mod FormRanges
mod Guards
mod Negating
mod Parts
pub mod PathNumbers
pub mod PathTruth
mod PathsMade
pub mod QueryLaws
mod WaitingForms
mod WaitingGuards
mod UnreadGuards
mod CandidateBounds
pub mod FewerKept
