pub mod NumberSets
pub mod BitWords
pub mod Chains
pub mod WaitingLists
