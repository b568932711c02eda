-- one loop more
use Rattle.std.proofs.Common.{◌*◌, ◌∙◌, arith}
use Rattle.xk_types.specs.Code.{is_round, turns}
use Rattle.xk_explain_bounds.specs.Amounts.{kept}
use Rattle.xk_explain_bounds.proofs.AmountLemmas.{times_more, times_small}
use Rattle.xk_explain_bounds.proofs.visits.count_at.Goals as goal

pub loop-l-preserved : goal.loop-l-preserved
loop-l-preserved c =
    let l = c.l-item.result in
    let count = c.loop-l.count in
    let next = c.times_round-count.result in
    record {
      so_far =
          times_more (is_round c.args.at) count next c.loop-l.l-index l c.args.loops.now c.loop-l-test.true c.l-item.is c.times_round-count.ensures
          ∙ c.loop-l.invariant.so_far;
      small =
          let le = times_small (is_round c.args.at l) count (count * kept (turns l)) c.loop-l.invariant.small in
          let is = c.times_round-count.ensures in omega (arith, le, is);
    }
