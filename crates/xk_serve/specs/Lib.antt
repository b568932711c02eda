pub mod Notes
pub mod Answer
pub mod Devices
pub mod Crews
pub mod OneAnswer
pub use Rattle.xk_answers.specs.Printed
