pub mod AdmitKeeps
pub mod AtWork
mod BeatRows
pub mod BeforeSettling
pub mod BeginsAgain
pub mod CancelRows
pub mod ClaimKeeps
pub mod ClaimedCells
pub mod CommandsOneEach
mod ContextRows
pub mod Copied
pub mod Discharged
pub mod Entered
pub mod EnteredAgain
mod ForgetRows
pub mod Forgetting
pub mod HeldAtWork
pub mod JobsText
pub mod JoinedLegs
pub mod KeepsSound
pub mod Kept
pub mod KnownDeliveries
pub mod Leased
pub mod LegHeld
pub mod OnTables
pub mod ReportKeeps
mod RerunRows
pub mod RunnerOrder
pub mod RunnerPut
pub mod RunnerSizes
pub mod ServedNothing
pub mod StepKeeps
pub mod StepRows
pub mod Storable
pub mod ViewRows
