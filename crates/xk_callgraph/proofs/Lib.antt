pub mod NumberingLemmas
pub mod ReachabilityLemmas
pub mod OrderLemmas
pub mod CallExamples
pub mod PendingCallLemmas
pub mod NameNumberLemmas
pub mod CallPlaceLemmas
pub mod CallGraphLemmas
mod RecursionExamples
