pub mod JsonListLemmas
pub mod LoopLemmas
pub mod ReaderLemmas
pub mod InstrLemmas
pub mod ModuleLemmas
pub mod TextLemmas
pub mod JsonValueLemmas
pub mod Examples
