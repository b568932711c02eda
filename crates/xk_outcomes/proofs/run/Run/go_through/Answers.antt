use Rattle.std.proofs.Common.{arith, refl}
use Rattle.std.proofs.lemmas.List.Sums.{fold_more}
use Rattle.xk_outcomes.proofs.run.Run.go_through.Goals as goal

pub loop-rank-init : goal.loop-rank-init
loop-rank-init c = record { to = refl; leads = λ start f. f }

pub loop-rank-preserved : goal.loop-rank-preserved
loop-rank-preserved c = record {
  to = grind (arith, fold_more);
  leads = λ start f. c.in_ok-go_on.ensures.leads start (c.loop-rank.invariant.leads start f);
}
