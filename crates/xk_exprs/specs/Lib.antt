pub mod Marks
pub mod Faults
pub mod ReaderCombinators
pub mod Spelling
pub mod ExprReaders
pub mod Laws
