-- Definitions that follow the code, or that proofs alone need. No promise names them.
pub mod Entries
pub mod Numbered
pub mod Values
