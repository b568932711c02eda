use Rattle.std.proofs.Common.{◌≡◌, ◌∙◌, get_or, arith}
use Rattle.std.proofs.lemmas.Option.{slice_get_within}
use Rattle.xk_readings.specs.declared.edge.Edge.{Edge}
use Rattle.xk_readings.specs.NodeSets.{HasNode}
use Rattle.xk_readings.proofs.BranchLemmas.{one_later}
use Rattle.xk_readings.proofs.ListLemmas.{read}
use Rattle.xk_readings.proofs.MoveLemmas.{kept_has, one_target}
use Rattle.xk_readings.proofs.UsefulLemmas.{no_edge}
use Rattle.xk_readings.proofs.moves.add_targets.Goals as goal

pub add_target-requires : goal.add_target-requires
add_target-requires c =
    let edges = c.edges_from-edge-items.result.now in
    let at = c.loop-edge.edge-index in
    let e = get_or edges at no_edge in
    let has = (c.edges_from-edge-items.ensures.each at e (read edges at no_edge c.loop-edge-test.true)).0 in
    let to = (c.requires.within e has).1 in
    let now = c.loop-edge.invariant.room in
    let room = c.requires.room in
    omega (arith, to, now, room)

pub returns-in_err-add_target-clause-each : goal.returns-in_err-add_target-clause-each
returns-in_err-add_target-clause-each c =
    let edges = c.edges_from-edge-items.result.now in
    let at = c.loop-edge.edge-index in
    let e = get_or edges at no_edge in
    let known = c.edges_from-edge-items.ensures.each at e (read edges at no_edge c.loop-edge-test.true) in
    one_target c.args.graph.now c.args.node c.args.printed c.args.set.now.nodes c.loop-edge.set.nodes c.add_target.new.set.nodes e known.0 known.1
    c.loop-edge.invariant.each c.add_target.ensures.each

pub loop-edge-preserved : goal.loop-edge-preserved
loop-edge-preserved c =
    let edges = c.edges_from-edge-items.result.now in
    let at = c.loop-edge.edge-index in
    let e = get_or edges at no_edge in
    let there = read edges at no_edge c.loop-edge-test.true in
    let known = c.edges_from-edge-items.ensures.each at e there in
    let old = c.loop-edge.set.nodes in
    let new = c.add_target.new.set.nodes in
    record {
      room = c.add_target.ensures.room ∙ c.loop-edge.invariant.room;
      kept = λ i k h. c.add_target.ensures.kept i k (c.loop-edge.invariant.kept i k h);
      there = λ j f less h. one_later edges at e there (λ (z : Edge). z.printed ≡ c.args.printed → HasNode new z.to)
          c.in_ok-add_target.ensures.there
          (λ i z before h prints. kept_has old new z.to c.add_target.ensures.kept (c.loop-edge.invariant.there i z before h prints)) j f less h;
      each = one_target c.args.graph.now c.args.node c.args.printed c.args.set.now.nodes old new e known.0 known.1 c.loop-edge.invariant.each
          c.add_target.ensures.each;
    }

pub returns-clause-there : goal.returns-clause-there
returns-clause-there c e has begins prints =
    let edges = c.edges_from-edge-items.result.now in
    let h = c.edges_from-edge-items.ensures.all e has begins in
    let inside = slice_get_within edges h.0 e h.1 in
    let over = c.loop-edge-test.false in
    c.loop-edge.invariant.there h.0 e (omega (arith, inside, over)) h.1 prints
