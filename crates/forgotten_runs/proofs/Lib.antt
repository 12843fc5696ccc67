pub mod CountIndexes
pub mod FirstFound
pub mod Increasing
pub mod KeptDeliveries
pub mod TwoLists
