pub mod LogText
pub mod Verdicts
pub mod Numbers
pub mod Reading
pub mod SomeBytes
