use Rattle.std.proofs.Common.{◌≡◌, drop}
use Rattle.xk_show_locals.specs.Locals.{bound_in}
use Rattle.xk_show_locals.proofs.bounds.bound_in.Given as goal

-- none of the instructions so far begins such a loop
abbrev pub invariant-loop-instr : goal.invariant-loop-instr
invariant-loop-instr l = bound_in l.limit l.code ≡ bound_in l.limit (drop l.instr-index l.code)
