pub mod Words
pub mod Comments
pub mod NearNames
pub mod Signs
pub mod Heads
pub mod Names
