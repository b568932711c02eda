pub mod Frames
pub mod Standings
