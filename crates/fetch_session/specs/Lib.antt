pub mod Runs
pub mod Visits
