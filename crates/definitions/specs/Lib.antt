pub mod Area
pub mod Disk
pub mod Format
pub mod Limits
pub mod Rising
pub mod SmallText
