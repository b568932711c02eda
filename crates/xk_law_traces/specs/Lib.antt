pub mod Moments
pub mod Classes
pub mod RaceFreedom
pub mod OneRun
pub mod Edges
