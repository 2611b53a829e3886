pub mod InPlaceLemmas
pub mod ListedLemmas
pub mod OutputLemmas
mod SetupLemmas
pub mod TextLemmas
pub mod WarningLemmas
mod WordsLemmas
