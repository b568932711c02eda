pub mod Chains
pub mod Times
pub mod Paths
pub mod Exactness
pub mod Steps
