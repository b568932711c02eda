use Rattle.std.proofs.Common.{◌≡◌, ◌<◌, ◌==◌, not, List, length, get_or, ap, ◌∙◌, subst, arith}
use Rattle.xk_finishes.specs.Tree.{NodeValue, awaits_innermost}
use Rattle.xk_finishes.proofs.ActivityLemmas.{awaits_innermost_same}
use Rattle.xk_finishes.proofs.CounterStepLemmas.{empty_counted}
use Rattle.xk_finishes.proofs.tree.FinishTree.empty.Goals as goal

pub returns-clause-waits : goal.returns-clause-waits
returns-clause-waits c =
    let nodes = c.self.inside.nodes.items in
    let inside : c.args.act < length nodes = omega (arith, ap length c.self.view_is, c.requires.exists) in
    let read = c.index.ensures ∙ ap (λ i. get_or nodes i c.index.result.now) c.act.view_is in
    subst (λ (ns : List NodeValue). (c.of.result == 0) ≡ not (awaits_innermost ns c.args.act)) c.self.view_is
    (empty_counted nodes c.self.inside.counters c.args.act c.opened-depth.result c.of.result c.index.result.now c.self.invariant inside read
    c.opened-depth.ensures c.of.ensures)

pub returns-clause-step : goal.returns-clause-step
returns-clause-step c acts a are found = returns-clause-waits c ∙ ap not (awaits_innermost_same acts c.args.self.now are c.args.act a found)
