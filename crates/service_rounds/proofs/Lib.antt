-- Lemmas of a service in rounds.
pub mod Held
pub mod Lines
pub mod Yielding
