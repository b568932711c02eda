pub mod Answers
pub mod Reading
pub mod ProgramTexts
pub mod Play
pub mod Asking
