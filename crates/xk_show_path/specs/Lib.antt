pub mod Rounds
pub mod PathLanes
pub mod PathPicture
pub mod Forms
