pub mod Storable
pub mod inner
