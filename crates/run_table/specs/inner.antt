-- Definitions that follow the code, or that proofs alone need. No promise names them.
pub mod IndexNamed
pub mod KeptSite
pub mod RunnerSizes
