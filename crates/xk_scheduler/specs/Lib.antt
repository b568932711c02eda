pub mod Schedules
pub mod Choosers
pub mod EnabledSet
pub mod LoggedRuns
pub mod LocalRuns
pub mod Waiters
pub mod Rosters
pub mod WholeRuns
