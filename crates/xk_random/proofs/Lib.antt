mod ShareLemmas
mod TallyLemmas
pub mod RunLemmas
mod Examples
