pub mod AskedRun
