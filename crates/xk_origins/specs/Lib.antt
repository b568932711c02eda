pub mod Origin
pub mod UnitOrigins
pub mod Offsets
pub mod VisibleNames
pub mod OwnInstructions
pub mod Laws
pub mod Due
