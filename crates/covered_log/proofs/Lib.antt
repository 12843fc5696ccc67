pub mod LogLemmas
pub mod NothingLeft
pub mod PageLemmas
pub mod Telling
