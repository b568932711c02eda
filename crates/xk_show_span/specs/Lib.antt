pub mod Spots
pub mod Phases
pub mod Text
