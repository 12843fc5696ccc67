-- Definitions that follow the code, or that proofs alone need. No promise names them.
pub mod ByLease
pub mod ByNumber
pub mod OneByOne
pub mod StoredSites
