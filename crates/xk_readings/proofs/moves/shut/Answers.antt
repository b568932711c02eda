use Rattle.std.proofs.Common.{◌∙◌, None, arith}
use Rattle.xk_readings.proofs.BeginningLemmas.{silent_read_to}
use Rattle.xk_readings.proofs.MoveLemmas.{gone_more, reads_on, reads_silent, shut_all, targets_within}
use Rattle.xk_readings.proofs.moves.shut.Goals as goal

pub returns-in_err-add_targets-clause-nodes : goal.returns-in_err-add_targets-clause-nodes
returns-in_err-add_targets-clause-nodes c =
    targets_within c.args.graph.now c.node.result None c.loop-at.set.nodes c.add_targets.new.set.nodes c.requires.within
    c.loop-at.invariant.nodes c.add_targets.ensures.each

pub returns-in_err-add_targets-clause-reads : goal.returns-in_err-add_targets-clause-reads
returns-in_err-add_targets-clause-reads c =
    reads_on c.args.graph.now c.args.set.now.nodes c.loop-at.set.nodes c.add_targets.new.set.nodes c.loop-at.invariant.reads
    (reads_silent c.args.graph.now c.node.result c.loop-at.set.nodes c.add_targets.new.set.nodes (c.loop-at.at, c.node.ensures)
    c.add_targets.ensures.each)

pub returns-in_err-add_targets-clause-read_to : goal.returns-in_err-add_targets-clause-read_to
returns-in_err-add_targets-clause-read_to c numbers are =
    silent_read_to c.args.graph.now c.node.result c.loop-at.set.nodes c.add_targets.new.set.nodes (c.loop-at.at, c.node.ensures)
    c.add_targets.ensures.each numbers (c.loop-at.invariant.read_to numbers are)

pub loop-at-preserved : goal.loop-at-preserved
loop-at-preserved c =
    let g = c.args.graph.now in
    let old = c.loop-at.set.nodes in
    let new = c.add_targets.new.set.nodes in
    record {
      room = c.add_targets.ensures.room ∙ c.loop-at.invariant.room;
      kept = λ i k h. c.add_targets.ensures.kept i k (c.loop-at.invariant.kept i k h);
      nodes = targets_within g c.node.result None old new c.requires.within c.loop-at.invariant.nodes c.add_targets.ensures.each;
      reads = reads_on g c.args.set.now.nodes old new c.loop-at.invariant.reads
          (reads_silent g c.node.result old new (c.loop-at.at, c.node.ensures) c.add_targets.ensures.each);
      read_to = λ numbers are. silent_read_to g c.node.result old new (c.loop-at.at, c.node.ensures) c.add_targets.ensures.each numbers
          (c.loop-at.invariant.read_to numbers are);
      shut = gone_more g old new c.loop-at.at c.node.result c.node.ensures c.add_targets.ensures.kept c.in_ok-add_targets.ensures.there
          c.loop-at.invariant.shut;
    }

pub returns-clause-shut : goal.returns-clause-shut
returns-clause-shut c =
    let over = c.loop-at-test.false in
    let count = c.len.ensures.count in
    shut_all c.args.graph.now c.loop-at.set.nodes c.loop-at.at (omega (arith, over, count)) c.loop-at.invariant.shut
