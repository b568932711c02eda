pub mod JoinedLemmas
