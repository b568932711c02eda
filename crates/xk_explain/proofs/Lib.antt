mod ExcerptLemmas
mod TitleLemmas
