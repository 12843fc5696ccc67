pub mod Needs
pub mod inner
