pub mod StoredSizes
pub mod inner
