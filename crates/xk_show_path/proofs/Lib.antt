pub mod MarkLemmas
pub mod RoundLemmas
mod PathExamples
pub mod PathLemmas
