pub mod DeclarationLemmas
