pub mod ListLemmas
pub mod UnitLemmas
pub mod ShapeRuleLemmas
pub mod FaultLemmas
pub mod OneFaultLaw
