pub mod DigestLemmas
mod DigestListLemmas
pub mod LikenessLemmas
mod FrameLemmas
