pub mod Answered
pub mod Faults
