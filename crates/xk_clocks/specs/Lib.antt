pub mod Table
pub mod StandingCounts
