use Rattle.std.proofs.Common.{◌≡◌, drop}
use Rattle.xk_emit.specs.Unit.{slots_used}
use Rattle.xk_emit.proofs.units.slots_of_code.Given as goal

-- the most so far and the instructions that are left come to the most of all
abbrev pub invariant-loop-instr : goal.invariant-loop-instr
invariant-loop-instr l = slots_used l.most (drop l.instr-index l.code) ≡ slots_used l.free l.code
