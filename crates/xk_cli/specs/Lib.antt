pub mod Numbers
pub mod CommandLine
pub mod Misfits
