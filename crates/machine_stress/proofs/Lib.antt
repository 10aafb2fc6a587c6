pub mod Counting
pub mod Buffers
pub mod BufferRules
pub mod Callers
pub mod ClientRules
pub mod Moves
pub mod LargeRuns
