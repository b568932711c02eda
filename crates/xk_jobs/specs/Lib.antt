pub mod WorkerCount
pub mod CommandAnswers
pub mod CommandFiles
pub mod Tasks
pub mod Status
