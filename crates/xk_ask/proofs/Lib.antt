pub mod LineLemmas
pub mod TurnLemmas
pub mod QuestionLemmas
pub mod PlayLemmas
mod AskExamples
