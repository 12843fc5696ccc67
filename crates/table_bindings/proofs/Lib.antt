pub mod Binding
pub mod BoundJobs
pub mod BoundSays
pub mod DecidedKeys
pub mod Digits
pub mod KeptLabels
pub mod LabelNumbers
mod PlainLabels
pub mod ShortLabels
pub mod Under
