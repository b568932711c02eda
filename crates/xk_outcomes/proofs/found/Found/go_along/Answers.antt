use Rattle.std.proofs.Common.{◌∙◌, ap, sym}
use Rattle.xk_outcomes.specs.Found.{FoundValue, act_of, along, next}
use Rattle.xk_outcomes.proofs.FoundLemmas.{along_push}
use Rattle.xk_outcomes.proofs.found.Found.go_along.Goals as goal

pub loop-rank-preserved : goal.loop-rank-preserved
loop-rank-preserved c =
    let left = c.pop.new.self.items in
    let x = c.loop-rank.self in
    let act = c.act_of_rank-act.ensures ∙ ap (λ (z : FoundValue). act_of z.core.world c.in-Some.rank) c.self.view_is in
    ap (along left) (c.in_ok-go_on.ensures ∙ ap (λ a. next a x) act) ∙ sym (along_push left c.in-Some.rank x)
    ∙ sym (ap (λ l. along l x) c.in-Some.ensures.items)
    ∙ c.loop-rank.invariant
