pub mod CallGraph
pub mod TopologicalOrder
pub mod Recursion
pub mod Callees
