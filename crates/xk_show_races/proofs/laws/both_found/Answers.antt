use Rattle.xk_show_races.proofs.FoundLemmas.{races_found}
use Rattle.xk_show_races.proofs.laws.both_found.Goals as goal

pub returns : goal.returns
returns c = λ args log. races_found c.args.verified.now args log
