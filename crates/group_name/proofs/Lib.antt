mod BoundFolding
mod Folding
pub mod KeyRooms
pub mod OnLiterals
pub mod SameGroups
