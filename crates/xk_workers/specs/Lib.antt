pub mod Claims
pub mod Run
pub mod LockTable
pub mod WorkerTurn
pub mod Workers
