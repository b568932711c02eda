pub mod MomentLemmas
mod PageExamples
