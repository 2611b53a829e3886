pub mod Calls
pub mod Core
pub mod LeftRecords
pub mod Listed
pub mod Lists
pub mod Losses
pub mod MboxLeft
pub mod MboxPromised
pub mod MboxState
pub mod Outcomes
pub mod Passwords
pub mod Progress
pub mod Promised
mod Recorded
pub mod Safety
pub mod State
pub mod Sharing
pub mod Steps
pub mod Talk
pub mod Tasks
pub mod Turns
mod VisitPromises
pub mod Visits
pub mod Witnesses
