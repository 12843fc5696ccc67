-- The lines that a service prints.
pub mod Reports
