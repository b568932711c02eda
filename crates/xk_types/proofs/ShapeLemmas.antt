-- What the rules on shape say of one unit, which the verifier and the law both need.
pub mod SpanStartLemmas
pub mod SpanLemmas
pub mod LoopLemmas
pub mod FinishLemmas
