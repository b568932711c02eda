use Rattle.std.proofs.Common.{◌∙◌, ℕ, ℤ, subst, Some, arith}
use Rattle.std.specs.Int.{w64}
use Rattle.std.proofs.lemmas.Int.{to_z-of_z}
use Rattle.std.proofs.lemmas.Option.{slice_get_within}
use Rattle.xk_readings.specs.Automata.{HasTargets, IsTarget}
use Rattle.xk_readings.specs.NodeSets.{HasNode}
use Rattle.xk_readings.proofs.MoveLemmas.{node_later, started, targets_kept}
use Rattle.xk_readings.proofs.moves.start_from.Goals as goal

pub returns-in_err-add_targets-clause-each : goal.returns-in_err-add_targets-clause-each
returns-in_err-add_targets-clause-each c =
    let g = c.args.graph.now in
    let nodes = c.args.nodes.now in
    let new = c.add_targets.new.set.nodes in
    subst (λ (x : ℤ). (k : ℕ) → HasNode new k → (from : ℕ) × HasNode nodes from × IsTarget g from (Some x) k)
    (to_z-of_z w64 c.args.number (record { sfits = c.ranges.number.sfits }))
    (started g nodes _ c.loop-node.set.nodes new c.loop-node.node-index c.loop-node-test.true c.loop-node.invariant.each c.add_targets.ensures.each)

pub loop-node-preserved : goal.loop-node-preserved
loop-node-preserved c =
    let g = c.args.graph.now in
    let nodes = c.args.nodes.now in
    let at = c.loop-node.node-index in
    let old = c.loop-node.set.nodes in
    let new = c.add_targets.new.set.nodes in
    record {
      room = c.add_targets.ensures.room ∙ c.loop-node.invariant.room;
      there = node_later nodes at 0 (λ k. HasTargets g k _ new) c.loop-node-test.true c.in_ok-add_targets.ensures.there
          (λ j k less h. targets_kept g k _ old new c.add_targets.ensures.kept (c.loop-node.invariant.there j k less h));
      each = started g nodes _ old new at c.loop-node-test.true c.loop-node.invariant.each c.add_targets.ensures.each;
    }

pub returns-clause-there : goal.returns-clause-there
returns-clause-there c k h =
    let inside = slice_get_within c.args.nodes.now h.0 k h.1 in
    let over = c.loop-node-test.false in
    subst (λ (x : ℤ). HasTargets c.args.graph.now k (Some x) c.loop-node.set.nodes)
    (to_z-of_z w64 c.args.number (record { sfits = c.ranges.number.sfits }))
    (c.loop-node.invariant.there h.0 k (omega (arith, inside, over)) h.1)

pub returns-clause-each : goal.returns-clause-each
returns-clause-each c =
    subst (λ (x : ℤ). (k : ℕ) → HasNode c.loop-node.set.nodes k → (from : ℕ) × HasNode c.args.nodes.now from
    × IsTarget c.args.graph.now from (Some x) k)
    (to_z-of_z w64 c.args.number (record { sfits = c.ranges.number.sfits })) c.loop-node.invariant.each
