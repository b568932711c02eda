pub mod Words
pub mod Fields
pub mod Listing
