pub mod Checks
pub mod Findings
pub mod InJob
pub mod InMatrix
pub mod InWorkflow
pub mod Lines
pub mod Paths
pub mod Plans
