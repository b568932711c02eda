use Rattle.std.proofs.Common.{arith}
use Rattle.xk_closed_sets.proofs.TableLemmas.{all_places, more_places}
use Rattle.xk_closed_sets.proofs.rules.is_closed_in.Goals as goal

pub loop-place-preserved : goal.loop-place-preserved
loop-place-preserved c =
    more_places c.args.rows.now c.args.unit c.args.code.now c.loop-place.place c.index-code-place.result c.loop-place.invariant
    (omega arith) c.index-code-place.is (c.is_closed_at.ensures c.if-not-is_closed_at.false)

pub returns : goal.returns
returns c = λ yes. all_places c.args.rows.now c.args.unit c.args.code.now c.loop-place.place (omega arith) c.loop-place.invariant
    (c.is_short.ensures yes)
