pub mod PartCoverage
pub mod ShapeRules
pub mod Faults
