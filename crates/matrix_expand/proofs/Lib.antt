pub mod Agreement
pub mod Finals
pub mod Firsts
pub mod Legs
pub mod Merging
pub mod Originals
pub mod Rising
mod Rows
pub mod Steps
