pub mod Command
pub mod Masking
pub mod Shown
pub mod Talk
pub mod Ways
pub mod Wire
