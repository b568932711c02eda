pub mod StillLemmas
pub mod StepLemmas
pub mod RoundLemmas
pub mod GreedyLemmas
pub mod OneRunLemmas
pub mod SpanLemmas
pub mod ProcessorLemmas
pub mod ExistenceLemmas
