-- Definitions that follow the code, or that proofs alone need. No promise names them.
pub mod Hearing
pub mod Held
pub mod Progress
pub mod SessionErrors
pub mod Turns
