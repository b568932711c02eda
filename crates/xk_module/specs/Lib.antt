pub mod Faults
pub mod ModuleText
pub mod ModuleReader
pub mod Operands
