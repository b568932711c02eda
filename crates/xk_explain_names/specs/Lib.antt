pub mod LentClocks
pub mod PlainFinishes
pub mod Notes
