pub mod CutLemmas
pub mod VisitLemmas
pub mod WeightSumLemmas
pub mod TotalLemmas
pub mod CallChainLemmas
pub mod RoomLemmas
pub mod RefusalLemmas
