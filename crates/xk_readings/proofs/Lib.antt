pub mod ListLemmas
pub mod SetLemmas
mod UsefulLemmas
mod GraphLemmas
mod NodeSetLemmas
mod StandLemmas
mod ReadingLemmas
pub mod RisingLemmas
mod CountLemmas
mod MoveLemmas
mod StateLemmas
mod AutomatonLemmas
mod PathLemmas
mod HowManyLemmas
mod BeginningLemmas
mod GrowthLemmas
mod BranchLemmas
mod WalkLemmas
mod TrimLemmas
mod Examples
