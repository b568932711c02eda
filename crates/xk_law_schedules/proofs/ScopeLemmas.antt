-- The scopes of clocks: to which finish a clock belongs, and who is under it.
pub mod Invariant
pub mod StepLemmas
pub mod FinishOwnerLemmas
