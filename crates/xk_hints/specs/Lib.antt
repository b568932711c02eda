pub mod Accesses
pub mod Deeds
pub mod Hints
pub mod Meetings
pub mod SharedNumbers
pub mod Words
