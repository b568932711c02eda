pub mod Letters
pub mod Accounts
pub mod Methods
pub mod ClockNames
pub mod Events
pub mod Writers
pub mod NameCounts
