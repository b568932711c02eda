pub mod Local
pub mod Slots
pub mod Interpreter
pub mod FrameStack
pub mod StepAgreement
pub mod Activities
pub mod Ticket
