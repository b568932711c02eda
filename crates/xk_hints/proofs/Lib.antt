mod AccessLemmas
mod Examples
mod NameLemmas
mod RemarkLemmas
