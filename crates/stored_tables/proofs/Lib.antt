pub mod ByNumberRead
pub mod DeliveriesFound
pub mod LeasesPut
pub mod PartsRead
pub mod PhasesTested
pub mod SoundOneByOne
pub mod StoredOnce
pub mod StoredParts
