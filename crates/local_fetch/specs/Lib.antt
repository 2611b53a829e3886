pub mod Fetches
pub mod Good
pub mod Kills
pub mod Local
pub mod LoopLaws
pub mod Losses
pub mod Moves
pub mod Twice
