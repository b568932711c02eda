use Rattle.std.proofs.Common.{◌≡◌, ◌<◌, ◌^◌, List, [], ◌∷◌, ◌++◌, length, sym, ap, ◌∙◌, subst, arith}
use Rattle.xk_types.specs.World.{Finish}
use Rattle.xk_finishes.specs.Tree.{NodeValue, fresh_node, node_at, governing_of}
use Rattle.xk_finishes.specs.Counters.{CountsOneMore, IsCounting}
use Rattle.xk_finishes.proofs.CounterListLemmas.{read_any}
use Rattle.xk_finishes.proofs.CounterStepLemmas.{counting_same, counts_fit, counting_spawned}
use Rattle.xk_finishes.proofs.tree.FinishTree.spawned.Goals as goal

pub invariant_of-self-in_err-push : goal.invariant_of-self-in_err-push
invariant_of-self-in_err-push c =
    rw c.in_err-push.ensures.items
    (counting_same c.self.inside.nodes.items c.self.inside.counters c.make_place.new.self c.self.invariant c.make_place.ensures.same)

pub add-requires-clause-fits : goal.add-requires-clause-fits
add-requires-clause-fits c =
    let nodes = c.self.inside.nodes.items in
    let inside : c.starter.inside.0 < length nodes = omega (arith, ap length c.self.view_is, c.starter.view_is, c.requires.exists) in
    let numbers : length nodes < 2 ^ 32 = omega (arith, ap length c.self.view_is, c.requires.numbers) in
    let placed = counting_same nodes c.self.inside.counters c.make_place.new.self c.self.invariant c.make_place.ensures.same in
    counts_fit nodes c.make_place.new.self c.starter.inside.0 c.governing-governed.result placed inside numbers

pub invariant_of-self-2 : goal.invariant_of-self-2
invariant_of-self-2 c =
    let nodes = c.self.inside.nodes.items in
    let starter = c.starter.inside.0 in
    let inside : starter < length nodes = omega (arith, ap length c.self.view_is, c.starter.view_is, c.requires.exists) in
    let same : node_at nodes starter ≡ node_at c.args.self.now c.args.starter =
    ap (λ (ns : List NodeValue). node_at ns starter) c.self.view_is ∙ ap (node_at c.args.self.now) c.starter.view_is in
    let governed : c.governing-governed.result ≡ governing_of starter (node_at nodes starter) =
    c.governing-governed.ensures ∙ ap (λ s. governing_of s c.index.result.now) (sym c.starter.view_is)
    ∙ ap (governing_of starter) (read_any nodes starter c.index.result.now _ inside c.index.ensures) in
    let placed = counting_same nodes c.self.inside.counters c.make_place.new.self c.self.invariant c.make_place.ensures.same in
    let started = c.new.ensures ∙ ap (λ (f : Finish). fresh_node f c.args.room) governed in
    rw c.in_ok-push.ensures.items
    (subst (λ (x : NodeValue). IsCounting (nodes ++ x ∷ []) c.add.new.self) (sym started)
    (counting_spawned nodes c.make_place.new.self c.add.new.self starter c.args.room placed inside (ap (λ (x : NodeValue). x.ended) same ∙ c.requires.runs)
    (subst (λ (f : Finish). CountsOneMore f c.make_place.new.self c.add.new.self) governed c.add.ensures)))
