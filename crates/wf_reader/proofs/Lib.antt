pub mod BodyCases
pub mod Contents
pub mod ConcurrencyParts
pub mod ConditionTexts
pub mod ContextParts
pub mod Entries
pub mod EventParts
pub mod InOrder
pub mod JobFaults
pub mod MatrixParts
pub mod Members
pub mod NeedsListed
pub mod RunsOn
pub mod StrategyParts
mod TextsRead
pub mod WorkflowParts
mod ConcurrencyRows
mod ConditionRows
pub mod OnLiterals
mod Rows
mod StrategyRows
