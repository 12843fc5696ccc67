pub mod Entering
pub mod Marked
pub mod Offers
pub mod Passed
pub mod Places
pub mod SameLabels
pub mod Writes
