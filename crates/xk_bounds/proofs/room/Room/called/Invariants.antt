-- the most among the instructions so far
use Rattle.std.proofs.Common.{take}
use Rattle.xk_bounds.specs.Rooms.{IsSmall, IsGreatest}
use Rattle.xk_bounds.proofs.room.Room.called.Given as goal

abbrev pub invariant-loop-instr : goal.invariant-loop-instr
invariant-loop-instr l = record {
  greatest : IsGreatest l.table (take l.instr-index l.u.code) l.most;
  small : IsSmall l.most;
}
