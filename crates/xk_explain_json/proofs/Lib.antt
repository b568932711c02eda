mod Examples
mod PlainLemmas
