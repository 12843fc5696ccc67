pub mod Displaced
pub mod KeptState
pub mod Lines
pub mod LogState
pub mod Standings
pub mod inner

-- The changes of a service, and their lines.
