use Rattle.std.proofs.Common.{◌≡◌, ◌≤◌, take}
use Rattle.std.specs.Vec.{vec_capacity}
use Rattle.xk_clocks.proofs.table.ClockTable.copy.Given as goal

-- those passed were copied
abbrev pub invariant-loop-clock : goal.invariant-loop-clock
invariant-loop-clock l = (l.clocks.items ≡ take l.clock-index l.self-inside.clocks.items) × (l.self-inside.room ≤ vec_capacity l.clocks)
