pub mod Due
pub mod Laws
pub mod Limits
pub mod Plan
pub mod Wanted
