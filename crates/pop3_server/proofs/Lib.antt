mod EventLemmas
pub mod HonestLemmas
mod QuitLemmas
pub mod RemovalLemmas
pub mod RowLemmas
mod ServeLemmas
mod SizeLemmas
mod SlotLemmas
mod TextAnswerLemmas
mod TextBodyLemmas
mod TextPieceLemmas
mod TextTopLemmas
