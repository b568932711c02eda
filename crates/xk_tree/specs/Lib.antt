pub mod Tree
pub mod Fault
pub mod Gather
pub mod AsyncOffsets
pub mod Program
