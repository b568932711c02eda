mod Examples
mod PlainLemmas
mod SpanLemmas
