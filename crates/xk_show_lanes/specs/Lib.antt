pub mod Fields
pub mod Lanes
pub mod NamedLanes
