pub mod FirstLayout
pub mod SecondLayout
pub mod TableLengths
pub mod Tables
pub mod inner
