-- Modules that are shown accepted, and what the laws say of them; and why the laws need their premises.
pub mod Opening
pub mod AcceptanceTest
pub mod Sum
pub mod Pair
pub mod Phases
pub mod Kinds
pub mod Finish
pub mod Counterexamples
