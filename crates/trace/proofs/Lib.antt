pub mod MarkLemmas
pub mod WayLemmas
