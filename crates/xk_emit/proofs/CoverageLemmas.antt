-- What `CoveredLaw` stands on: a place in the text beside the slots that belong to it, expressions, and statements.
pub mod TableLemmas
pub mod ScopeSlotLemmas
pub mod StatementNameLemmas
pub mod StatementLemmas
mod Examples
