pub mod AsciiForms
pub mod BodyText
pub mod ComboTokens
pub mod FewJobs
pub mod FewLegs
pub mod Jobs
pub mod NeedsOfPlans
pub mod Numbers
pub mod Parts
pub mod Prepares
mod Rows
pub mod SameCommands
