pub mod FrameLemmas
mod LocalsExamples
