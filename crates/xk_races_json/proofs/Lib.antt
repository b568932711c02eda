mod Examples
mod PairLemmas
mod PlainLemmas
