pub mod ActivityNames
pub mod ClockNames
pub mod Names
