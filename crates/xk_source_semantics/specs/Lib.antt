pub mod Parts
pub mod PartGraph
pub mod Compilation
pub mod Source
pub mod Meaning
