pub mod Rules
pub mod Advice
pub mod Repairs
