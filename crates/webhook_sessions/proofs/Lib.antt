-- Lemmas.
pub mod NamedValues
pub mod HeadLines
pub mod Heads
pub mod Targets
