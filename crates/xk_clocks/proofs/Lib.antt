pub mod TallyLemmas
pub mod CountStepLemmas
pub mod Examples
