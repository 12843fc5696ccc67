pub mod Answering
mod Causes
pub mod Checks
mod CutLines
pub mod Inputs
pub mod Lints
pub mod Making
pub mod Plays
mod Rows
pub mod Showing
pub mod Writing
