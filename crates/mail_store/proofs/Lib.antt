pub mod MaildirLemmas
pub mod MboxLemmas
pub mod SettlingLemmas
pub mod LossLemmas
pub mod DurableLemmas
pub mod DiskLemmas
pub mod EntryLemmas
mod PeekLemmas
pub mod SettledLemmas
