pub mod BoundLemmas
mod BoundRows
pub mod ComparisonLemmas
pub mod Complete
pub mod FlagLemmas
pub mod Found
pub mod NameLemmas
pub mod OpeningLemmas
pub mod OutcomeLemmas
pub mod ProfileLemmas
pub mod PropertyLemmas
mod Rows
pub mod RunLemmas
pub mod Sound
pub mod EncodeLemmas
pub mod States
