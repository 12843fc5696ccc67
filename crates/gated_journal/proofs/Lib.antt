mod Areas
mod ChoiceRows
mod Choosing
mod ClosedGate
pub mod Composed
mod CutOff
mod Filled
mod Frames
mod Prefixes
mod Gates
pub mod Grown
mod Heads
mod Laying
mod Moves
pub mod OneReading
pub mod Parting
mod Recording
mod Scanning
mod Scans
mod TwoAreas
mod Whole
