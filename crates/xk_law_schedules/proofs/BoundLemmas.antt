-- No more steps than the bound: its sums, and a measure that falls with each step.
pub mod TotalLemmas
pub mod LoopTurnLemmas
pub mod MeasureLemmas
