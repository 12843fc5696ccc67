pub mod Bindings
pub mod BoundFlags
pub mod BoundGroups
pub mod GroupKeys
pub mod KnownLabels
pub mod LabelNumbers
pub mod PlainLabels
pub mod inner
