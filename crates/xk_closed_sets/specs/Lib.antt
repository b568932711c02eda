pub mod Footprint
pub mod Places
pub mod Footprints
pub mod Reaches
pub mod ClosedSets
