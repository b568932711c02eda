pub mod DeviceLemmas
pub mod LineLemmas
