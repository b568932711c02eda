pub mod Spelling
pub mod Readers
pub mod Views
pub mod Laws
pub mod Faults
