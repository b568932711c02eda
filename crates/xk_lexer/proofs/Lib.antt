pub mod CommentLemmas
pub mod PieceLengthLemmas
pub mod PrefixLemmas
pub mod PieceCompletenessLemmas
pub mod PieceSoundnessLemmas
pub mod LexingLemmas
pub mod OffsetLemmas
pub mod Examples
