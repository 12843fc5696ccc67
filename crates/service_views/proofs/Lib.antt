pub mod FollowingLemmas
pub mod KeepingLemmas
