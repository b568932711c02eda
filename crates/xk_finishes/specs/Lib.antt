pub mod Counters
pub mod Tree
