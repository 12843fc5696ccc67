pub mod Gives
pub mod RefusalText
pub mod ScalarValue
pub mod SpacedText
pub mod inner
