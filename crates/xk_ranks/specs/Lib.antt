pub mod Ranks
pub mod Reads
