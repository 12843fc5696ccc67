pub mod Commands
pub mod Lengths
pub mod inner
