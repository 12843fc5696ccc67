-- Lemmas of a checkpoint that upgrades a store.
pub mod Upgrading
