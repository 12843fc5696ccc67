pub mod Escapes
pub mod Heads
pub mod Parts
pub mod Sending
