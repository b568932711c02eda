pub mod LoopLemmas
pub mod NumberLemmas
pub mod SoundnessLemmas
pub mod OperandLoopLemmas
pub mod CompletenessLemmas
mod LongestMatchLemmas
mod ExpressionLemmas
mod Examples
