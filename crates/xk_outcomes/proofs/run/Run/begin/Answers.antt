use Rattle.std.proofs.Common.{[], ℕ, List, subst, sym}
use Rattle.xk_outcomes.specs.Search.{IsFoundBy}
use Rattle.xk_outcomes.proofs.FoundLemmas.{found_start}
use Rattle.xk_outcomes.proofs.run.Run.begin.Goals as goal

pub returns-in-Ok-clause-found : goal.returns-in-Ok-clause-found
returns-in-Ok-clause-found c =
    let start = c.args.start.now in
    c.in-Ok.ensures.leads start
    (subst (λ (s : List ℕ). IsFoundBy start s c.in_ok-open.field-0) (sym c.new.ensures.items)
    (subst (IsFoundBy start []) (sym c.in_ok-open.ensures) (found_start start)))
