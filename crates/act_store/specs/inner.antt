-- Definitions that follow the code, or that proofs alone need. No promise names them.
pub mod Encoded
pub mod LastPart
pub mod Opened
pub mod PendingRecord
pub mod Promise
pub mod Replayed
pub mod StoreSeen
