pub mod ListLemmas
pub mod UnitOrderLemmas
pub mod PartGraphLemmas
pub mod PartBodyLemmas
pub mod PartRecursionLemmas
