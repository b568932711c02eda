pub mod RoundRows
pub mod RoundLanes
