pub mod MemoryLemmas
