use Rattle.std.proofs.Common.{◌≤◌, List, ℕ, length, set, subst, sym, arith}
use Rattle.xk_callgraph.specs.TopologicalOrder.{IsSearch}
use Rattle.xk_callgraph.proofs.NumberingLemmas.{zeros_set}
use Rattle.xk_callgraph.proofs.ReachabilityLemmas.{search_more}
use Rattle.xk_callgraph.proofs.topological_order.mark.Goals as goal

pub returns-clause-left : goal.returns-clause-left
returns-clause-left c =
    let e = zeros_set c.args.seen.now c.args.j 1 c.requires c.if-seen-j-ne0.false (omega arith) in
    omega (arith, e, c.in_ok-push.ensures.len)

pub returns-clause-search : goal.returns-clause-search
returns-clause-search c = λ calls start done old le r.
    let within : done ≤ length c.args.reached.now.items = omega (arith, le, c.args.reached.now.ok) in
    subst (λ (xs : List ℕ). IsSearch calls start (set c.args.seen.now c.args.j 1) xs done) (sym c.in_ok-push.ensures.items)
    (search_more calls start c.args.seen.now c.args.reached.now.items done c.args.j c.requires old within r)
