pub mod TalkLemmas
