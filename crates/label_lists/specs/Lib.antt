pub mod Known
pub mod Lists
pub mod Requesting
pub mod inner
