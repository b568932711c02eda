use Rattle.std.proofs.Common.{arith, rules}
use Rattle.xk_readings.proofs.BranchLemmas.{all_of_more, branches_more, branches_sorted}
use Rattle.xk_readings.proofs.BranchLemmas.{no_branch}
use Rattle.xk_readings.proofs.RisingLemmas.{rising_by_key}
use Rattle.xk_readings.proofs.branches.branches_from.Goals as goal

pub loop-before-preserved : goal.loop-before-preserved
loop-before-preserved c =
    let g = c.args.graph.now in
    let all = c.args.ways.now.all in
    let old = c.loop-before.branches.items in
    let new = c.add_branches.new.branches.items in
    record {
      each = branches_more g all c.args.first c.loop-before.before old new c.loop-before.auto.before c.in_ok-add_branches.ensures
          c.loop-before.invariant.each;
      there = all_of_more g all c.args.first c.loop-before.before old new c.in_ok-add_branches.ensures c.loop-before.invariant.there;
    }

pub returns-clause-branches : goal.returns-clause-branches
returns-clause-branches c =
    let over = c.loop-before-test.false in
    let count = c.len-before-end.ensures in
    branches_sorted c.args.graph.now c.args.ways.now.all c.args.first c.loop-before.branches.items c.sort_by_key.new.self.items
    c.sort_by_key.ensures.permutation (record {
      each = c.loop-before.invariant.each;
      there = λ k from less. c.loop-before.invariant.there k from (omega (arith, less, over, count));
    })

pub returns-clause-rising : goal.returns-clause-rising
returns-clause-rising c =
    rising_by_key c.sort_by_key.new.self.items no_branch c.in_ok-sort_by_key.ensures.sorted (λ a r q k. search rules)
