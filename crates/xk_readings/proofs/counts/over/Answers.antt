use Rattle.std.proofs.Common.{◌∙◌, ◌+◌, get_or, sym, ap, arith}
use Rattle.xk_readings.specs.Paths.{counted, ways_to}
use Rattle.std.proofs.lemmas.Option.{get_or_from_slice_get}
use Rattle.xk_readings.proofs.CountLemmas.{counted_sum, over_all, over_below, over_no, over_none, over_yes}
use Rattle.xk_readings.proofs.counts.over.Goals.{then-ends-node, else-ends-node}
use Rattle.xk_readings.proofs.counts.over.Goals as goal

pub loop-node-init : goal.loop-node-init
loop-node-init c paths are = (let none = over_none c.args.ends.now paths in omega (arith, none))

pub loop-node-preserved : goal.loop-node-preserved
loop-node-preserved c paths are =
    let ends = c.args.ends.now in
    let node = c.loop-node.node in
    let now = c.args.now.now in
    elim c.if-ends-node.branch [
      | then-ends-node w ↦
          let more = over_yes ends node paths w.if-ends-node.true in
          let here = get_or_from_slice_get now node (counted (ways_to node paths)) 0 (are.at node c.loop-node-test.true) in
          w.count-is ∙ w.sum-count.ensures
          ∙ ap (λ n. counted (n + get_or now node 0)) (c.loop-node.invariant paths are)
          ∙ ap (λ n. counted (counted (over_below ends node paths) + n)) here
          ∙ counted_sum (over_below ends node paths) (ways_to node paths)
          ∙ ap counted (sym more)
      | else-ends-node w ↦ w.count-is ∙ c.loop-node.invariant paths are ∙ ap counted (sym (over_no ends node paths w.if-ends-node.false))
    ]

pub returns : goal.returns
returns c paths are =
    let over = c.loop-node-test.false in
    let most = c.requires in
    c.loop-node.invariant paths are ∙ ap counted (over_all c.args.ends.now c.loop-node.node paths (omega (arith, over, most)))
