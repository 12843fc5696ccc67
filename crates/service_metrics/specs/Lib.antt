pub mod CommitTimes
pub mod Counters
pub mod Gauges
pub mod Metrics
pub mod Refusals
