pub mod Shapes
pub mod Furniture
pub mod Sheet
pub mod Picture
