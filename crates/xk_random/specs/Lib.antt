pub mod Chance
pub mod Tally
pub mod Shares
pub mod Runs
