mod WordsLemmas
mod WarningLemmas
