use Rattle.std.proofs.Common.{◌≡◌, take}
use Rattle.xk_ranks.specs.Reads.{marked}
use Rattle.xk_closed_sets.specs.Footprint.{is_set}
use Rattle.xk_closed_sets.proofs.reads.marked.Given as goal

abbrev pub invariant-loop-s : goal.invariant-loop-s
invariant-loop-s l = l.list.items ≡ take l.s (marked (is_set l.word) l.numbers)
