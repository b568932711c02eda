pub mod View
pub mod RegistrationChanges
pub mod Standings
pub mod ResumePhase
pub mod ResumePhaseLaw
