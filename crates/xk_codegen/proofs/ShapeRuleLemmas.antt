-- The module that is the code of a tree without faults breaks none of the rules V1 to V7 and V10.
pub mod UnitLemmas
pub mod Law
