pub mod Lines
pub mod Columns
pub mod Extents
pub mod Signs
pub mod Excerpts
