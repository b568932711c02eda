pub mod AmountLemmas
pub mod UpwardLemmas
pub mod UnitTotalLemmas
mod Examples
