pub mod Files
pub mod Marking
mod MailMoves
mod MailCalls
mod Sharing
pub mod Kept
pub mod Refusing
pub mod Under
pub mod Searching
pub mod Reading
pub mod Changing
pub mod Folder
mod Listing
mod Watching
mod Keeping
