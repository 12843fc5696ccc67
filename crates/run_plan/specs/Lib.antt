pub mod LastCommand
pub mod PlanOf
pub mod ReplyText
pub mod inner
