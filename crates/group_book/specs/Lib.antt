pub mod Books
pub mod Holders
pub mod Slots
