pub mod ActivityLemmas
pub mod CounterLemmas
pub mod CounterStepLemmas
pub mod OpenFinishLemmas
pub mod OwnerLemmas
pub mod UnderLemmas
pub mod CounterListLemmas
