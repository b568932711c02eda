-- What the shape of an accepted module gives.
pub mod LoopLemmas
pub mod FinishLemmas
pub mod BlockLemmas
pub mod HomeLemmas
pub mod UnitLemmas
