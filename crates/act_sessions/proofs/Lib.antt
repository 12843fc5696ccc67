-- Lemmas on sessions.
mod Closing
mod Going
mod Heard
pub mod Joining
pub mod Listing
mod One
mod Rounds
mod Shut
pub mod Taken
mod Turning
pub mod Waiting
