pub mod TextLemmas
pub mod LineLemmas
pub mod NumberLemmas
pub mod VerdictLemmas
pub mod LineReaderLemmas
pub mod ReaderLemmas
pub mod Examples
