-- The law, from the lemmas.
use Rattle.std.proofs.Common.{sym, ◌∙◌}
use Rattle.xk_ranks.proofs.RankLaw.{go_by_rank, stand_alike, one_number, live_by_rank, by_rank, by_rank_back}
use Rattle.xk_ranks.proofs.ranks.Goals as goal

pub returns-clause-goes : goal.returns-clause-goes
returns-clause-goes c m live w v limits ok liveness here there same = go_by_rank m limits ok live liveness w v here there same

pub returns-clause-stand : goal.returns-clause-stand
returns-clause-stand c m live w v a b limits ok liveness here there same one =
    stand_alike m limits ok live liveness w v here there same a b one

pub returns-clause-one : goal.returns-clause-one
returns-clause-one k w v a b c h g = one_number w v a b c h g

pub returns-clause-wider : goal.returns-clause-wider
returns-clause-wider c live w v same = live_by_rank live w v same

pub returns-clause-turned : goal.returns-clause-turned
returns-clause-turned c live w v same = sym same

pub returns-clause-joined : goal.returns-clause-joined
returns-clause-joined c live w v u h g = h ∙ g

pub returns-clause-carried : goal.returns-clause-carried
returns-clause-carried c m live limits ok liveness = by_rank m limits ok live liveness

pub returns-clause-back : goal.returns-clause-back
returns-clause-back c m live limits ok liveness = by_rank_back m limits ok live liveness
