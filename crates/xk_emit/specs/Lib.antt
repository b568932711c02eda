pub mod CodeOf
pub mod Unit
pub mod NameCoverage
pub mod CodeReferences
pub mod Room
pub mod EmittedCode
pub mod LeafStatements
