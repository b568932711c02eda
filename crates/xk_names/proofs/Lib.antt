pub mod TableLemmas
pub mod FaultAppendLemmas
pub mod CaptureStepLemmas
pub mod ArgumentLoopLemmas
pub mod CallFaultLemmas
pub mod ScopeCutLemmas
pub mod StatementSequenceLemmas
pub mod MembershipLemmas
pub mod TableAgreementLemmas
pub mod CaptureLemmas
pub mod StatementFaultLemmas
pub mod StatementAgreementLemmas
pub mod MethodFaultLemmas
pub mod TreeFaultLemmas
pub mod SignatureLemmas
pub mod CaptureVisibilityLemmas
pub mod LeastFaultLemmas
pub mod ProgramFaultLemmas
pub mod WellScopedLaw
mod Examples
mod CaptureExamples
pub mod LoopScopeLemmas
pub mod FreeUseLemmas
mod FreeVariableExamples
pub mod FreeStatementLemmas
pub mod FreePlaceLemmas
pub mod FreeBodyStartLemmas
pub mod TextSetLemmas
pub mod FreeVariablesLaw
