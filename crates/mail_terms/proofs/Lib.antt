pub mod ErrLemmas
pub mod IdLemmas
pub mod ListLemmas
pub mod ListingLemmas
mod NumberingLemmas
pub mod NumeralLemmas
mod TextLemmas
