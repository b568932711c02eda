pub mod Plain
pub mod Objects
