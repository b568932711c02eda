pub mod Phases
pub mod Span
