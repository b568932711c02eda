pub mod OrderedRun
pub mod Explanation
pub mod Results
pub mod Refusals
pub mod Printed
