pub mod LengthLemmas
pub mod UnitLemmas
pub mod OffsetLemmas
pub mod NameLemmas
pub mod TokenLemmas
pub mod SlotLemmas
pub mod OwnInstructionLemmas
pub mod PlaceLemmas
pub mod DueLemmas
pub mod DueLaw
mod Examples
mod DueExamples
