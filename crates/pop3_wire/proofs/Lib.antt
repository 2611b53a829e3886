pub mod BodiesLemmas
pub mod BodyLemmas
mod LineReaderLemmas
pub mod LinkLemmas
pub mod RowsLemmas
