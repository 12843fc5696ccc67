mod Added
mod AllSeated
mod ArrivalEnds
mod ArrivalRests
mod ArrivalsToCome
mod Arriving
mod ArrivingLegs
mod Begun
mod Cancelled
pub mod Counting
mod DecidedThere
mod Displaced
mod DueRuns
mod DueStill
mod Entered
mod FirstOffering
mod FirstRules
mod FlagsSaid
mod FoundBySlot
mod GroupsHeld
mod HoldersOfRuns
mod HoldersThere
pub mod Indexed
mod JobFinishes
mod JobResult
mod KnownGroups
mod KnownSays
pub mod LabelsTold
mod LegArrives
mod LegEnds
mod LegsOffered
mod LegsThere
pub mod MarkedRuns
pub mod NextAttempt
mod NoAnswer
mod NobodyYet
mod NoneActive
mod NoneOffered
mod NoneReady
mod OffersList
mod OneChange
mod OneHolder
mod OpenedJob
mod Opening
mod PlannedLegs
pub mod ReadThere
mod ReadyBefore
mod RunAdded
mod RunComes
pub mod SeatSteps
pub mod Seating
pub mod SeatsInOrder
mod Shaped
mod SizesKept
mod Sought
mod SpentKeys
mod SpentThere
mod Stays
pub mod StillBound
mod Stopping
pub mod Stored
mod StoredSizes
mod ToldMore
