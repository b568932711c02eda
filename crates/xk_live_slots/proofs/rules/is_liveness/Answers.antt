use Rattle.std.proofs.Common.{◌≤◌, List, length, arith, subst}
use Rattle.xk_types.specs.Code.{UnitValue}
use Rattle.xk_live_slots.specs.LiveSlots.{live_in}
use Rattle.xk_live_slots.proofs.TableLemmas.{all_units}
use Rattle.xk_live_slots.proofs.rules.is_liveness.Goals as goal

pub returns : goal.returns
returns c = λ yes. all_units c.args.program.now (live_in c.args.rows.now) c.loop-unit.unit
    (subst (λ (us : List UnitValue). length us ≤ c.loop-unit.unit) c.units-unit-end.ensures.listed (omega (arith, c.loop-unit-test.false)))
    c.loop-unit.invariant
