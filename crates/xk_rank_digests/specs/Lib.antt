pub mod Numbers
pub mod RankLikeness
pub mod RankDigest
