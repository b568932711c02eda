pub mod LaneLemmas
pub mod KeptLemmas
mod LaneExamples
