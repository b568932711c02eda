use Rattle.std.proofs.Common.{◌∙◌, ◌<◌, ℕ, List, ap, length, slice_get, subst, sym, refl, arith}
use Rattle.std.proofs.lemmas.Bool.{true≢false}
use Rattle.xk_readings.specs.NodeSets.{HasNode, NodeSetValue}
use Rattle.xk_readings.specs.Stands.{standings}
use Rattle.xk_readings.specs.Ways.{Standing, WaysValue, at, start}
use Rattle.xk_readings.proofs.ListLemmas.{read}
use Rattle.xk_readings.proofs.StandLemmas.{here_push, none_here}
use Rattle.xk_readings.proofs.ways.Ways.look_from.Goals.{After-node-node}
use Rattle.xk_readings.proofs.ways.Ways.look_from.Goals as goal

pub invariant_of-self : goal.invariant_of-self
invariant_of-self c = record {
  behind = c.self.invariant.behind;
  here = λ m has. none_here (standings c.self.inside.stands.items) c.args.number m
      (subst (λ (s : NodeSetValue). HasNode s.nodes m) c.clear.ensures has);
}

pub loop-k-init : goal.loop-k-init
loop-k-init c = record {
  all = ap (λ (w : WaysValue). w.all) c.self.view_is;
  since = refl;
  room = ap (λ (s : NodeSetValue). s.room) c.clear.ensures ∙ ap (λ (w : WaysValue). w.here.room) c.self.view_is;
}

pub node-node-requires : goal.node-node-requires
node-node-requires c =
    let less = c.loop-k-test.true in
    let count = c.len-k-end.ensures in
    let was = ap (λ (w : WaysValue). length w.all) c.self.view_is in
    let now = ap length c.loop-k.invariant.all in
    omega (arith, less, count, was, now)

-- where the way of this number ends is one of the nodes
in_room : (c : After-node-node) → c.node-node.result < c.self-in-loop-k.inside.here.room
in_room c =
    let less = c.loop-k-test.true in
    let count = c.len-k-end.ensures in
    let was = ap (λ (w : WaysValue). length w.all) c.self.view_is in
    let now = ap length c.loop-k.invariant.all in
    let all = c.loop-k.self.all in
    let there = read all c.loop-k.k start (omega (arith, less, count, was, now)) in
    let is = c.requires.within c.loop-k.k (at all c.loop-k.k) (ap (λ (l : List Standing). slice_get l c.loop-k.k)
    (sym c.loop-k.invariant.all) ∙ there) in
    let node = c.node-node.ensures in
    let room = ap (λ (w : WaysValue). w.here.room) c.self-in-loop-k.view_is ∙ c.loop-k.invariant.room in
    omega (arith, is, node, room)

pub has-requires : goal.has-requires
has-requires c = in_room (goal.at.has-requires c).After-node-node

pub add-requires-clause-room : goal.add-requires-clause-room
add-requires-clause-room c = in_room (goal.at.add-requires-clause-room c).After-node-node

pub add-requires-clause-new : goal.add-requires-clause-new
add-requires-clause-new c h = true≢false (sym (c.if-not-has.ensures.there.1 h))

pub invariant_of-self-in-Continue-1 : goal.invariant_of-self-in-Continue-1
invariant_of-self-in-Continue-1 c =
    let all = standings c.self-in-loop-k.inside.stands.items in
    let less = c.loop-k-test.true in
    let count = c.len-k-end.ensures in
    let was = ap (λ (w : WaysValue). length w.all) c.self.view_is in
    let now = ap length c.loop-k.invariant.all in
    let same = ap (λ (w : WaysValue). w.all) c.self-in-loop-k.view_is in
    let many = ap length same in
    let from = ap (λ (w : WaysValue). w.since) c.self-in-loop-k.view_is in
    let since = c.loop-k.invariant.since in
    let behind = c.loop-k.auto.k in
    record {
      behind = c.self-in-loop-k.invariant.behind;
      here = here_push all c.self-in-loop-k.inside.since c.self-in-loop-k.inside.here.nodes c.add.new.self.nodes c.node-node.result
          c.in_ok-add.ensures.added
          c.self-in-loop-k.invariant.here (
            c.loop-k.k,
            at all c.loop-k.k,
            omega (arith, from, since, behind),
            read all c.loop-k.k start (omega (arith, less, count, was, now, many)),
            ap (λ (l : List Standing). (at l c.loop-k.k).node) same ∙ sym c.node-node.ensures,
          );
    }

pub invariant_of-self-in_err-add : goal.invariant_of-self-in_err-add
invariant_of-self-in_err-add c = record {
  behind = c.self-in-loop-k.invariant.behind;
  here = λ m has. c.self-in-loop-k.invariant.here m (subst (λ (l : List ℕ). HasNode l m) c.in_err-add.ensures.same has);
}
