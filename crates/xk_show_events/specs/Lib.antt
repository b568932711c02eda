pub mod Worlds
pub mod Endings
pub mod Steps
pub mod Events
