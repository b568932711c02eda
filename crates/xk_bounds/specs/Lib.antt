pub mod Refusals
pub mod Rooms
pub mod Measure
