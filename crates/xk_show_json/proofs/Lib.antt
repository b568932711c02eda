mod Examples
pub mod EventLemmas
mod ListLemmas
pub mod PlainListLemmas
