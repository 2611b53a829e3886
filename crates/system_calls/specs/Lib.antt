pub mod Denials
pub mod Line
