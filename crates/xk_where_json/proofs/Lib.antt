mod Examples
mod ItemLemmas
mod PlainLemmas
mod StandingLemmas
