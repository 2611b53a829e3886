pub mod Fields
pub mod Lines
pub mod Memory
pub mod News
pub mod Times
