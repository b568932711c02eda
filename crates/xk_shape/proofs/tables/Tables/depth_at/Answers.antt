-- behind the last place none is open
use Rattle.std.proofs.Common.{length, sym, ap, arith}
use Rattle.xk_shape.proofs.EnclosingFinishLemmas.{block_past}
use Rattle.xk_shape.proofs.tables.Tables.depth_at.Goals as goal

pub returns-in-None : goal.returns-in-None
returns-in-None c = λ u tables.
    sym (ap length (block_past u c.args.at (omega (arith, c.in-None.ensures.lookup.3, ap length c.deref.ensures.value, tables.all_places))))
