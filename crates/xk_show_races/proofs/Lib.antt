pub mod StepLemmas
pub mod FoundLemmas
mod Examples
