pub mod After
pub mod Answered
mod BeatRows
mod ConditionRows
