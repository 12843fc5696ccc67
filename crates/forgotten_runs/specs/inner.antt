-- Definitions that follow the code, or that proofs alone need. No promise names them.
pub mod CountIndexes
pub mod Delivered
