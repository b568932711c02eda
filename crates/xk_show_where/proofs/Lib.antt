pub mod AwaitedLemmas
pub mod ExcerptLemmas
pub mod HolderLaw
pub mod PieceLemmas
pub mod ProgressLemmas
pub mod WaitingLaw
mod WhereExamples
