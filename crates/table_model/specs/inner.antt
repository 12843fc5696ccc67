-- Definitions that follow the code, or that proofs alone need. No promise names them.
pub mod ActiveRuns
pub mod Cells
pub mod Claims
pub mod Holders
pub mod LegCounts
pub mod NeedsLeft
pub mod PlacedLegs
pub mod Resuming
pub mod WithinRun
