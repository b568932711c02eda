-- The units that a program without faults of names has: what they run has its unit, and their code needs no more names than there are.
pub mod RisingListLemmas
pub mod PartLookupLemmas
pub mod NestingLemmas
pub mod PartUniquenessLemmas
pub mod BodyScopeLemmas
pub mod SettingLemmas
pub mod CoverageLemmas
