pub mod Declarations
pub mod Calls
pub mod FreeNames
pub mod Kinds
