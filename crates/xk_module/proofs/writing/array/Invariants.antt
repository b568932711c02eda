use Rattle.std.proofs.Common.{drop}
use Rattle.xk_module.proofs.JsonValueLemmas.{AreWritten}
use Rattle.xk_module.proofs.writing.array.Given as goal

abbrev pub invariant-loop-item : goal.invariant-loop-item
invariant-loop-item g l = AreWritten g.T.Written.value g.T.Written.in_range l.items l.values.items (drop l.item-index l.items)
