use Rattle.std.proofs.Common.{◌≡◌, ◌∙◌, ◌<◌, ℕ, Some, List, length, get_or, ap, subst, arith}
use Rattle.xk_types.specs.World.{Finish}
use Rattle.xk_finishes.specs.Tree.{NodeValue, innermost_of, is_under, node_at}
use Rattle.xk_finishes.proofs.ActivityLemmas.{under_innermost_same}
use Rattle.xk_finishes.proofs.CounterListLemmas.{read_any}
use Rattle.xk_finishes.proofs.tree.FinishTree.is_under.Goals as goal

pub returns-clause-under : goal.returns-clause-under
returns-clause-under c =
    let nodes = c.self.inside.nodes.items in
    let inside : c.args.owner < length nodes = omega (arith, ap length c.self.view_is, c.requires) in
    let read = c.index.ensures ∙ ap (λ i. get_or nodes i c.index.result.now) c.owner.view_is in
    let here = read_any nodes c.args.owner c.index.result.now _ inside read in
    let finish : c.opened_by.result ≡ innermost_of c.args.owner (node_at nodes c.args.owner) =
    c.opened_by.ensures ∙ ap (λ (d : ℕ). record { owner = Some c.args.owner; depth = d }) (c.opened-depth.ensures ∙ ap (λ (n : NodeValue). n.opened) here) in
    c.has_below.ensures ∙ ap (λ (f : Finish). is_under c.args.self.now f c.args.act) finish
    ∙ ap (λ (ns : List NodeValue). is_under c.args.self.now (innermost_of c.args.owner (node_at ns c.args.owner)) c.args.act) c.self.view_is

pub returns-clause-step : goal.returns-clause-step
returns-clause-step c acts a are found = returns-clause-under c ∙ under_innermost_same acts c.args.self.now are c.args.owner a found c.args.act
