mod EarlyLemmas
mod ErrandLemmas
mod FindingsLemmas
pub mod NewIdsLemmas
mod NewsLemmas
mod NoticingLemmas
mod OutputLemmas
