-- The law, from the lemmas.
use Rattle.xk_ranks.proofs.RankLaw.{remains_step}
use Rattle.xk_ranks.proofs.remains.Goals as goal

pub returns : goal.returns
returns c m w a limits ok here at = remains_step m limits ok w here a at
