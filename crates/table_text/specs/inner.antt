-- Definitions that follow the code, or that proofs alone need. No promise names them.
pub mod ReadingFirst
pub mod ReadingSecond
pub mod ReadingTables
pub mod Writing
