pub mod Copies
pub mod Encoding
pub mod Laid
