pub mod TableLemmas
pub mod RowLemmas
pub mod RoundLaneLemmas
mod RoundExamples
