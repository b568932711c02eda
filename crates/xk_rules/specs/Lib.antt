pub mod Codes
pub mod Source
pub mod Module
pub mod Verifier
pub mod Run
pub mod Pages
