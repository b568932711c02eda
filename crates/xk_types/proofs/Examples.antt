-- Small programs of which the definitions give the stated answers by evaluation alone.
pub mod Notation
pub mod OneUnit
pub mod Activities
pub mod Kinds
pub mod Loops
pub mod Finishes
pub mod Shared
pub mod Methods
