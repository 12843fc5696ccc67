-- The sessions of a round, and the rounds of a service.
pub mod Rounds
pub mod Connections
