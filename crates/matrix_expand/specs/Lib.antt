pub mod Combinations
pub mod inner
