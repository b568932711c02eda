pub mod MemberLemmas
pub mod SliceLaw
pub mod BackLemmas
pub mod RestLaw
pub mod DepthLemmas
pub mod LineLemmas
mod WhyExamples
