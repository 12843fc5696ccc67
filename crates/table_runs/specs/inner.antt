-- Definitions that follow the code, or that proofs alone need. No promise names them.
pub mod Arriving
pub mod Begun
pub mod BookSteps
pub mod Counted
pub mod Delivered
pub mod GroupsKept
pub mod HolderChanges
pub mod MarkedRuns
pub mod RowsKept
pub mod Seating
