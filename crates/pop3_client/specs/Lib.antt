pub mod Causes
pub mod Client
pub mod Conversation
pub mod Listing
pub mod Texts
pub mod Turns
