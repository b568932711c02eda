pub mod Words
pub mod Call
pub mod Check
pub mod Diagnosis
