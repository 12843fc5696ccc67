-- What a service shows to those that look at it.
pub mod Behind
pub mod Boards
pub mod FirstRuns
pub mod Following
pub mod GivenLeases
pub mod HeardTimes
pub mod Keeping
pub mod Shown
