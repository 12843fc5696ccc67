pub mod Stored
pub mod TableOf
pub mod inner
