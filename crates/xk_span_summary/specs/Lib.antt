pub mod Counts
pub mod Shares
pub mod Stretches
pub mod Waits
