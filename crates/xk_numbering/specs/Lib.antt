pub mod Views
pub mod PartPlaces
pub mod Recursion
