-- the greatest of the slots in the rooms is the stack
use Rattle.std.proofs.Common.{◌+◌, List, length, ap, ◌∙◌}
use Rattle.xk_types.specs.Bound.{greatest_below}
use Rattle.xk_bounds.specs.declared.room.Room.{Room}
use Rattle.xk_bounds.specs.Rooms.{slots_in}
use Rattle.xk_bounds.proofs.RoomLemmas.{deepest_is}
use Rattle.xk_bounds.proofs.bounds.Bounds.of.Goals as goal

pub returns : goal.returns
returns c = record {
  steps = c.in_ok-most.ensures;
  activities = ap (λ n. n + 1) c.in_ok-most-2.ensures;
  clocks = c.in_ok-most-3.ensures;
  stack =
      c.deepest.ensures
      ∙ ap (λ (rs : List Room). greatest_below (slots_in rs) (length rs)) c.deref.ensures.value
      ∙ deepest_is c.args.m.now c.in_ok-rooms.rooms.items c.in_ok-rooms.ensures;
  rooms = c.in_ok-rooms.ensures;
}
