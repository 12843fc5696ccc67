pub mod Copies
pub mod Growth
