pub mod ExplanationLemmas
pub mod LogLemmas
pub mod OrderedRunLemmas
pub mod PrintedLemmas
pub mod TaleLemmas
pub mod VerdictLemmas
