mod LineLemmas
mod RcMeaningLemmas
mod RowLemmas
