-- the most so far, and those of the instructions that are left
use Rattle.std.proofs.Common.{◌≡◌, fold, max, map, drop, slice_index}
use Rattle.xk_bounds.specs.Rooms.{called_by, most_called}
use Rattle.xk_explain_bounds.proofs.totals.most_called.Given as goal

abbrev pub invariant-loop-instr : goal.invariant-loop-instr
invariant-loop-instr l =
    fold max l.most (map (called_by (slice_index l.table)) (drop l.instr-index l.u.code)) ≡ most_called (slice_index l.table) l.u.code
