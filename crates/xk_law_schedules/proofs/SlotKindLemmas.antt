-- The kinds of slots: walks, and the table that they follow.
pub mod WalkLemmas
pub mod KindTableLemmas
