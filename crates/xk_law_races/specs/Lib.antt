pub mod Finishes
pub mod Passes
