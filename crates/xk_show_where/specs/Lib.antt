pub mod Awaited
pub mod Excerpts
pub mod Pieces
pub mod Progress
pub mod Where
