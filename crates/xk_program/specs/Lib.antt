pub mod Programs
pub mod Faults
pub mod Bytes
pub mod Lines
pub mod Refusals
pub mod Origins
