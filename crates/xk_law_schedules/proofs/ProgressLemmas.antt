-- Where nobody can step, everybody has ended.
pub mod WaitLemmas
pub mod DeadlockLemmas
