use Rattle.std.proofs.Common.{◌∙◌, ap, refl, sym}
use Rattle.xk_outcomes.specs.declared.run.Run.{Run}
use Rattle.xk_outcomes.specs.Found.{act_of, along, next}
use Rattle.xk_outcomes.proofs.FoundLemmas.{along_push}
use Rattle.xk_outcomes.proofs.run.Run.go_along.Goals as goal

pub loop-rank-init : goal.loop-rank-init
loop-rank-init c = record { to = refl; leads = λ start f. f }

pub loop-rank-preserved : goal.loop-rank-preserved
loop-rank-preserved c =
    let left = c.pop.new.self.items in
    let act = c.act_of_rank-act.ensures ∙ ap (λ (r : Run). act_of r.to.core.world c.in-Some.rank) c.self.view_is in
    record {
      to = ap (along left) (c.in_ok-go_on.ensures.to ∙ ap (λ a. next a c.loop-rank.self.to) act) ∙ sym
          (along_push left c.in-Some.rank c.loop-rank.self.to)
          ∙ sym (ap (λ l. along l c.loop-rank.self.to) c.in-Some.ensures.items)
          ∙ c.loop-rank.invariant.to;
      leads = λ start f. c.in_ok-go_on.ensures.leads start (c.loop-rank.invariant.leads start f);
    }
