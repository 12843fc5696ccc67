pub mod Exact
pub mod Holders
pub mod Slots
