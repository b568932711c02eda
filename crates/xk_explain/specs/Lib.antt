pub mod Messages
pub mod Notes
pub mod FrontRepairs
pub mod Explanations
pub mod SourceExplanations
