-- slot after slot
use Rattle.std.proofs.Common.{[], ◌∷◌, length, length-append, ap, arith}
use Rattle.xk_typestate.specs.KindTable.{AreSlotKinds}
use Rattle.xk_typestate.proofs.ListLemmas.{each_more}
use Rattle.xk_typestate.proofs.kind_table.KindTable.follow.Goals as goal

pub loop-slot-preserved : goal.loop-slot-preserved
loop-slot-preserved c =
    let inv = c.loop-slot.invariant in
    let xs = c.loop-slot.slots.items in
    let y = c.in_ok-follow.field-0 in
    let pushed = c.in_ok-push.ensures.items in
    record {
      long = omega (arith, ap length pushed, length-append xs (y ∷ []), inv.long);
      each = each_more (AreSlotKinds c.args.m.now c.args.u.now) xs c.push.new.self.items y [] c.loop-slot.slot inv.long pushed inv.each c.in_ok-follow.ensures;
    }
