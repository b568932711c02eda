pub mod UnfitModuleLemmas
pub mod UnfitTextLemmas
