pub mod Stepwise
pub mod NumberLemmas
pub mod RankDigestLemmas
pub mod RootLemmas
pub mod RankLikenessLemmas
