mod Examples
pub mod ObjectLemmas
pub mod PlainLemmas
