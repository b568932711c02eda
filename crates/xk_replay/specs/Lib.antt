pub mod Replay
pub mod Chart
