-- one unit more, from the last on
use Rattle.std.proofs.Common.{◌≡◌, ◌-◌, ◌<◌, List, length, refl, Some, slice_get, sym, ap, ◌∙◌, subst, arith}
use Rattle.std.proofs.Math.ListN.{length-set}
use Rattle.std.proofs.lemmas.Option.{slice_get_read}
use Rattle.xk_shape.proofs.UnitLemmas.{blocks_of_shape}
use Rattle.xk_bounds.specs.declared.room.Room.{Room}
use Rattle.xk_bounds.specs.Rooms.{nothing, IsSmall, IsRoomBy, IsRoom}
use Rattle.xk_bounds.proofs.RoomLemmas.{room_by, room_small, each_set}
use Rattle.xk_bounds.proofs.room.rooms.Goals as goal

pub of-requires-clause-blocks : goal.of-requires-clause-blocks
of-requires-clause-blocks c =
    let m = c.args.m.now in
    let unit = c.loop-unit.unit - 1 in
    let units = c.units-units.result.now in
    let u = c.index-units-unit.result in
    let as_long : length units ≡ length m.units = ap length c.units-units.ensures.listed in
    let lt : unit < length units = omega (arith, c.loop-unit.invariant.long) in
    blocks_of_shape m u unit c.units-units.ensures.limits c.requires
    (ap (λ us. slice_get us unit) (sym c.units-units.ensures.listed) ∙ slice_get_read units (length units) unit u refl lt c.index-units-unit.is)

pub loop-unit-preserved : goal.loop-unit-preserved
loop-unit-preserved c =
    let m = c.args.m.now in
    let limits = c.units-units.ensures.limits in
    let unit = c.loop-unit.unit - 1 in
    let table = c.loop-unit.table.items in
    let room = c.in_ok-room.room in
    let inv = c.loop-unit.invariant in
    let units = c.units-units.result.now in
    let u = c.index-units-unit.result in
    let as_long : length units ≡ length m.units = ap length c.units-units.ensures.listed in
    let lt : unit < length units = omega (arith, inv.long) in
    let inside : unit < length table = omega (arith, inv.long) in
    let found : slice_get m.units unit ≡ Some u = ap (λ us. slice_get us unit) (sym c.units-units.ensures.listed) ∙ slice_get_read units (length units) unit u refl lt
    c.index-units-unit.is in
    let read : IsRoomBy table u room = subst (λ (rs : List Room). IsRoomBy rs u room) c.deref.ensures.value c.in_ok-room.ensures in
    let here : IsRoom m unit room = room_by m c.requires table unit u room found (λ t above within. inv.each t (omega arith) within) read in
    record {
      long = length-set table unit room ∙ inv.long;
      small = λ t. each_set (λ k. IsSmall) table unit room nothing inside (room_small m limits unit room here) t (λ ne. inv.small t);
      each = λ t from within. each_set (IsRoom m) table unit room nothing inside here t (λ ne. inv.each t (omega arith) within);
    }
