-- No step is wrong: each instruction finds its operands, and keeps the invariant.
pub mod ArgumentLemmas
pub mod CallerLemmas
pub mod PreservationLemmas
pub mod OperandLemmas
pub mod EffectLemmas
pub mod AdvanceEffectLemmas
pub mod InstructionLemmas
pub mod StepLemmas
