use Rattle.std.proofs.Common.{arith, ◌≡◌, ◌+◌, ◌-◌, length, drop, pos, ap, ◌∙◌}
use Rattle.std.proofs.lemmas.List.{length-reverse, length-map, length-append, length-replicate, length-drop}
use Rattle.xk_activity.specs.Slots.{values_of}
use Rattle.xk_activity.specs.FrameStack.{value_at}
use Rattle.xk_activity.proofs.FrameStackLemmas.{call_ready, call_stacked, call_gives, few_slots}
use Rattle.xk_activity.proofs.SlotWordLemmas.{laid_length}
use Rattle.xk_activity.proofs.frames.Frames.call.Goals as goal

pub hand-marks-requires-clause-room : goal.hand-marks-requires-clause-room
hand-marks-requires-clause-room c =
    let r = call_ready _ _ _ c.self.inside.marks _ _ _ _ _ _ _ c.args.self.now c.self.invariant c.self.view_is c.requires in
    let f = r.0.words in let g = r.1 in omega arith

pub hand-marks-requires-clause-few : goal.hand-marks-requires-clause-few
hand-marks-requires-clause-few c =
    let r = call_ready _ _ _ c.self.inside.marks _ _ _ _ _ _ _ c.args.self.now c.self.invariant c.self.view_is c.requires in
    let f = r.0.few in let g = r.1 in omega arith

pub hand-marks-requires-clause-size : goal.hand-marks-requires-clause-size
hand-marks-requires-clause-size c =
    let f = few_slots c.self.inside.verified.now c.self.inside.unit c.self.invariant.limits in
    let d = length-drop c.self.inside.base c.self.inside.stack.items in
    let t = c.self.invariant.top in omega arith

pub hand-marks-requires-clause-slots : goal.hand-marks-requires-clause-slots
hand-marks-requires-clause-slots c = (call_ready _ _ _ c.self.inside.marks _ _ _ _ _ _ _ c.args.self.now c.self.invariant c.self.view_is c.requires).2

pub fill-requires : goal.fill-requires
fill-requires c =
    let r = call_ready _ _ _ c.self.inside.marks _ _ _ _ _ _ _ c.args.self.now c.self.invariant c.self.view_is c.requires in
    let f = r.0.words in let g = r.1 in
    let l = laid_length _ _ _ _ c.hand-marks.ensures.laid in
    let m = length-map c.args.args.now (value_at (values_of c.self.inside.marks (drop c.self.inside.base c.self.inside.stack.items))) in
    let k = c.hand-marks.ensures.capacity in
    let e = c.size_of-size.ensures.size in
    omega arith

pub overflow_cast-self-inside : goal.overflow_cast-self-inside
overflow_cast-self-inside c =
    let r = call_ready _ _ _ c.self.inside.marks _ _ _ _ _ _ _ c.args.self.now c.self.invariant c.self.view_is c.requires in
    let f = r.0.short in omega arith

pub push_reserved-requires : goal.push_reserved-requires
push_reserved-requires c =
    let r = call_ready _ _ _ c.self.inside.marks _ _ _ _ _ _ _ c.args.self.now c.self.invariant c.self.view_is c.requires in
    let f = r.0.caller in
    let l = length-reverse c.self.inside.callers.items in
    omega (arith, c.self.inside.callers.ok)

pub invariant_of-self : goal.invariant_of-self
invariant_of-self c =
    let r = call_ready _ _ _ c.self.inside.marks _ _ _ _ _ _ _ c.args.self.now c.self.invariant c.self.view_is c.requires in
    let l = laid_length _ _ _ _ c.hand-marks.ensures.laid in
    let m = length-map c.args.args.now (value_at (values_of c.self.inside.marks (drop c.self.inside.base c.self.inside.stack.items))) in
    let q : length c.fill.new.stack.items ≡ length c.hand-marks.new.stack.items + (c.size_of-size.result - length c.args.args.now) =
    ap length c.fill.ensures.items ∙ length-append c.hand-marks.new.stack.items _
    ∙ ap (λ n. length c.hand-marks.new.stack.items + n) (length-replicate (c.size_of-size.result - length c.args.args.now) (pos 0)) in
    let g = r.1 in
    let e = c.size_of-size.ensures.size in
    call_stacked _ _ _ _ _ _ _ _ _ _ _ _ _ _ _ r.0 c.push_reserved.ensures.items
    (omega (arith, c.len-top.ensures.value)) (omega arith)
    (c.fill.ensures.capacity ∙ c.hand-marks.ensures.capacity) c.push_reserved.ensures.capacity

pub returns : goal.returns
returns c =
    let t = c.self.invariant.top in
    let r = call_ready _ _ _ c.self.inside.marks _ _ _ _ _ _ _ c.args.self.now c.self.invariant c.self.view_is c.requires in
    let f = r.0.few in let g = r.1 in let e = c.size_of-size.ensures.size in
    call_gives _ _ _ _ _ _ _ _ _ _ _ c.self.inside.stack.items c.hand-marks.new.stack.items c.fill.new.stack.items c.args.args.now c.self.inside.callers.items _ c.args.self.now
    c.self.view_is c.self.invariant.stacked (omega arith) (omega (arith, c.len-top.ensures.value))
    c.push_reserved.ensures.items c.hand-marks.ensures.laid c.fill.ensures.items c.size_of-size.ensures.size (omega arith) (omega arith)
