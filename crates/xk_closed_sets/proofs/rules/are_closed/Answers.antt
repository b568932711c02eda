use borrow.Author.Count.{below_more}
use Rattle.std.proofs.Common.{◌≡◌, Some, arith, rules, slice_get}
use Rattle.xk_types.specs.Code.{UnitValue}
use Rattle.xk_closed_sets.specs.Places.{IsClosedIn}
use Rattle.xk_closed_sets.proofs.TableLemmas.{all_units}
use Rattle.xk_closed_sets.proofs.rules.are_closed.Goals as goal

pub loop-unit-preserved : goal.loop-unit-preserved
loop-unit-preserved c =
    below_more (λ u. (y : UnitValue) → slice_get c.args.units.now u ≡ Some y → IsClosedIn c.args.rows.now u y.code) c.loop-unit.unit
    c.loop-unit.invariant (c.is_unit_closed.ensures c.if-not-is_unit_closed.false)

pub returns : goal.returns
returns c = λ yes. all_units c.args.rows.now c.args.units.now c.loop-unit.unit (omega arith) c.loop-unit.invariant (search (rules, yes))
