pub mod AccessLemmas
pub mod GroupLemmas
