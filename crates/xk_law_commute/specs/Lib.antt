pub mod PlainWorlds
pub mod ClockChanges
pub mod Conflicts
pub mod Squares
pub mod QuietSteps
pub mod Exploration
