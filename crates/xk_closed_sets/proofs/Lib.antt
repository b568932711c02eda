pub mod InstructionLemmas
pub mod FootprintLemmas
pub mod TableLemmas
pub mod ReadLemmas
pub mod ClaimLemmas
pub mod StuckLemmas
pub mod ClosednessLemmas
