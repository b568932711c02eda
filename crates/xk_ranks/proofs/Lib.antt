pub mod RankListLemmas
pub mod RankWorldLemmas
pub mod RankStepLaw
pub mod RankLaw
pub mod Examples
pub mod ReadLaw
