mod SearchLemmas
mod PrivateStepLemmas
pub mod FoundLemmas
mod AlikeLemmas
mod TripLemmas
mod RestLemmas
mod CheckpointLemmas
mod EntriesLemmas
mod LookupLemmas
pub mod FollowLemmas
mod ExplorationLemmas
mod RisingLemmas
pub mod ListingLemmas
mod ListedLemmas
mod PathLemmas
mod NumberingLemmas
pub mod PlainRunLemmas
pub mod LoneOutcomeLemmas
