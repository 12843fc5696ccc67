-- Definitions that follow the code, or that proofs alone need. No promise names them.
pub mod FileCalls
pub mod Laid
pub mod Noted
pub mod Past
pub mod RecordLaws
pub mod SystemLaws
