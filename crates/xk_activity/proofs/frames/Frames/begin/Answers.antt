use Rattle.std.proofs.Common.{length, ap, ◌∙◌, arith, rules, replicate, pos, ◌-◌}
use Rattle.std.specs.Prelude.{reverse}
use Rattle.std.proofs.lemmas.List.{length-append, length-replicate}
use Rattle.xk_activity.proofs.FrameStackLemmas.{own_room, start_stacked, begin_gives, few_slots}
use Rattle.xk_activity.proofs.SlotWordLemmas.{laid_length}
use Rattle.xk_activity.proofs.frames.Frames.begin.Goals as goal

pub put-marks-requires-clause-room : goal.put-marks-requires-clause-room
put-marks-requires-clause-room c =
    let o = own_room c.args.verified.now c.args.unit c.size_of-size.ensures.shape c.requires.unit in
    omega (
      arith,
      o.0,
      ap length c.in_ok-stack.ensures.none,
      c.in_ok-stack.ensures.room,
      c.room-room.ensures.slots,
      c.size_of-size.ensures.size,
      c.requires.fits,
    )

pub put-marks-requires-clause-few : goal.put-marks-requires-clause-few
put-marks-requires-clause-few c = let f = few_slots c.args.verified.now c.args.unit c.size_of-size.ensures.limits in let h = c.requires.fits in omega arith

pub fill-requires : goal.fill-requires
fill-requires c =
    let o = own_room c.args.verified.now c.args.unit c.size_of-size.ensures.shape c.requires.unit in
    let l = laid_length _ _ _ _ c.put-marks.ensures.laid in
    omega (
      arith,
      l,
      o.0,
      ap length c.in_ok-stack.ensures.none,
      c.in_ok-stack.ensures.room,
      c.room-room.ensures.slots,
      c.size_of-size.ensures.size,
      c.requires.fits,
      c.put-marks.ensures.capacity,
    )

pub overflow_sub-room : goal.overflow_sub-room
overflow_sub-room c = let o = own_room c.args.verified.now c.args.unit c.size_of-size.ensures.shape c.requires.unit in search (rules, o.1)

pub invariant_of-result : goal.invariant_of-result
invariant_of-result c =
    let o = own_room c.args.verified.now c.args.unit c.size_of-size.ensures.shape c.requires.unit in
    let l = laid_length _ _ _ _ c.put-marks.ensures.laid in
    let n = ap length c.in_ok-stack.ensures.none in
    let fits = c.requires.fits in
    let size = c.size_of-size.ensures.size in
    let all = ap length c.fill.ensures.items ∙ length-append c.put-marks.new.stack.items (replicate (c.size_of-size.result - length c.args.values.now) (pos 0)) in
    let rest = length-replicate (c.size_of-size.result - length c.args.values.now) (pos 0) in
    start_stacked c.args.verified.now c.args.unit (length c.fill.new.stack.items) _ _ _ c.size_of-size.ensures.limits c.size_of-size.ensures.shape c.requires.unit
    (ap reverse c.in_ok-callers.ensures.items)
    (omega arith)
    (let e = c.fill.ensures.capacity in let d = c.put-marks.ensures.capacity in let f = c.in_ok-stack.ensures.room in let g = c.room-room.ensures.slots in omega arith)
    (let e = c.in_ok-callers.ensures.exact in let f = c.room-room.ensures.frames in omega (arith, o.1))

pub returns-clause-begun : goal.returns-clause-begun
returns-clause-begun c =
    let few = few_slots c.args.verified.now c.args.unit c.size_of-size.ensures.limits in
    let fits = c.requires.fits in
    let size = c.size_of-size.ensures.size in
    begin_gives c.args.verified.now c.args.unit c.put-marks.result c.in_ok-stack.stack.items c.put-marks.new.stack.items c.fill.new.stack.items c.args.values.now c.in_ok-callers.callers.items
    c.size_of-size.result c.in_ok-stack.ensures.none c.put-marks.ensures.laid c.fill.ensures.items c.size_of-size.ensures.size (omega arith) (omega arith) c.in_ok-callers.ensures.items
