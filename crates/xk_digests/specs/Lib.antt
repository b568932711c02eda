pub mod Digest
pub mod Digests
pub mod Likeness
