pub mod ReplayLemmas
pub mod ChartLineLemmas
pub mod LivingLemmas
pub mod ChartExamples
pub mod RunLogLemmas
pub mod VerdictLemmas
