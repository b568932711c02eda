mod BitLemmas
mod SummaryWordLemmas
pub mod RisingListLemmas
mod MemberSearchLemmas
mod SetChangeLemmas
pub mod MemberListLemmas
mod EmptySetLemmas
mod SmallSetLemmas
pub mod ListRemovalLemmas
pub mod ChainLemmas
pub mod ChainLayoutLemmas
pub mod RemainderLemmas
pub mod WaitingListingLemmas
pub mod OccurrenceLemmas
