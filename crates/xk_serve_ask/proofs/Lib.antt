pub mod AskedRunLemmas
