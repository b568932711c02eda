-- The law, from the lemmas.
use Rattle.xk_law_commute.specs.Exploration.{IsIn}
use Rattle.xk_closed.specs.Suffixes.{IsEdgeIn, IsWorldIn}
use Rattle.xk_closed.proofs.ClosedLaw.{closed_sets}
use Rattle.xk_closed.proofs.SuffixLaw.{suffixes}
use Rattle.xk_ranks.specs.Ranks.{AreReachedAlike}
use Rattle.xk_ranks.proofs.RankLaw.{by_rank, by_rank_back}
use Rattle.xk_ranks.proofs.searches.Goals as goal

pub returns-clause-sets : goal.returns-clause-sets
returns-clause-sets c m live args all limits ok liveness =
    closed_sets m limits ok (AreReachedAlike m live) (by_rank m limits ok live liveness) args (IsIn all)

pub returns-clause-suffixes : goal.returns-clause-suffixes
returns-clause-suffixes c m live worlds edges limits ok liveness linked steps =
    suffixes m limits ok (AreReachedAlike m live) (by_rank m limits ok live liveness) (by_rank_back m limits ok live liveness)
    (IsWorldIn worlds) (IsEdgeIn edges) linked steps
