pub mod TableLemmas
pub mod Examples
