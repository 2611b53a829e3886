pub mod Check
pub mod Rule
pub mod Users
pub mod Walk
pub mod Way
