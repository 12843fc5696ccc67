pub mod CommandReaders
pub mod FormReaders
pub mod Keeping
pub mod Known
pub mod LengthLaws
mod LengthRows
pub mod Loop
pub mod Readers
