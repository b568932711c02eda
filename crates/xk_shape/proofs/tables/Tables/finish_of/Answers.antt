-- behind the last place there is no finish
use Rattle.std.proofs.Common.{length, sym, ap, arith}
use Rattle.xk_shape.specs.Places.{innermost}
use Rattle.xk_shape.proofs.EnclosingFinishLemmas.{block_past}
use Rattle.xk_shape.proofs.tables.Tables.finish_of.Goals as goal

pub returns-in-None : goal.returns-in-None
returns-in-None c = λ u tables.
    sym (ap innermost (block_past u c.args.at (omega (arith, c.in-None.ensures.lookup.3, ap length c.deref.ensures.value, tables.all_places))))
