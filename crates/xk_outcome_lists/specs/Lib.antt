pub mod Text
pub mod Expected
pub mod Texts
