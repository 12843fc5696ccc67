pub mod Answered
pub mod Begins
pub mod Events
pub mod Faults
pub mod Flushing
pub mod Settled
pub mod Shown
pub mod inner
