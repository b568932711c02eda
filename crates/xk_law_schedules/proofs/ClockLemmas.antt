-- Clocks: who stands where, and how a clock advances.
pub mod StandingLemmas
pub mod AdvanceLemmas
pub mod StepEndLemmas
