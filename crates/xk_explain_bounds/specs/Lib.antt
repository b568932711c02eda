pub mod Amounts
pub mod Parts
pub mod OtherPlaces
pub mod Words
pub mod Notes
