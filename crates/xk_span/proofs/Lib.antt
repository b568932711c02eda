pub mod TimeLemmas
pub mod PassLemmas
pub mod SpanLaw
pub mod PathLaw
pub mod StepLemmas
pub mod BackLemmas
