pub mod RunLemmas
pub mod LocalStepLemmas
pub mod UnclaimedSearchLemmas
pub mod TakeLemmas
pub mod NextLocalLemmas
pub mod CommitLemmas
