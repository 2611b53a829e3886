mod LineLemmas
pub mod MeaningLemmas
pub mod MergeLemmas
mod ReadLemmas
mod RowLemmas
