pub mod FirstReaders
mod FirstRows
pub mod ForgottenKnown
pub mod TableKnown
pub mod TableLengthLaws
pub mod TableReaders
mod TableRows
pub mod WholeFirstTables
pub mod WholeSecondTables
pub mod WholeTables
