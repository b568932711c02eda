mod Examples
pub mod LineLemmas
pub mod ListingLemmas
pub mod ShapeLemmas
