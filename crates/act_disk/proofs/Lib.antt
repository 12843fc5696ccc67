mod ImageLemmas
pub mod Kept
mod LaidLemmas
pub mod Moments
mod ReadLemmas
mod RecordLemmas
mod Walks
mod SyncLemmas
mod WriteLemmas
mod ZeroLemmas
