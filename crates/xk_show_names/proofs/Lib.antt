pub mod SubjectLemmas
pub mod BirthLemmas
pub mod WriterLemmas
pub mod ClockNameLemmas
mod EventExamples
