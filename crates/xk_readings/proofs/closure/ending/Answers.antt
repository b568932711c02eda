use Rattle.std.proofs.Common.{arith}
use Rattle.xk_readings.specs.Ways.{at, start}
use Rattle.xk_readings.proofs.ListLemmas.{read}
use Rattle.xk_readings.proofs.UsefulLemmas.{readable_within}
use Rattle.xk_readings.proofs.closure.ending.Goals as goal

pub may_end-requires : goal.may_end-requires
may_end-requires c =
    let all = c.args.ways.now.all in
    let number = c.loop-number.number in
    let less = c.loop-number-test.true in
    let count = c.len-number-end.ensures in
    let r = (c.requires.reached number (at all number) (read all number start (omega (arith, less, count)))).readable in
    let is = readable_within c.args.graph.now c.requires.within r.0 (at all number).node r.1 r.2 r.3 in
    let node = c.node.ensures in
    omega (arith, is, node)
