-- the unit doesn't have the slot
use Rattle.std.proofs.Common.{length, sym, ap, arith}
use Rattle.xk_shape.proofs.HomeTableLemmas.{home_past}
use Rattle.xk_shape.proofs.tables.Tables.home.Goals as goal

pub returns-in-None : goal.returns-in-None
returns-in-None c = λ u orderly tables.
    sym (home_past u orderly c.args.slot (omega (arith, c.in-None.ensures.lookup.3, ap length c.deref.ensures.value, tables.all_slots)))
