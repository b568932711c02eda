pub mod StepLemmas
pub mod AdvanceLemmas
mod EventExamples
