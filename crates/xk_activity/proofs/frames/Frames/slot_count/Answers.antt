use Rattle.std.proofs.Common.{arith, ap, length, drop}
use Rattle.std.proofs.lemmas.List.{length-drop}
use Rattle.xk_activity.specs.Local.{FramesValue}
use Rattle.xk_activity.specs.Slots.{is_marked}
use Rattle.xk_activity.proofs.SlotWordLemmas.{length_by}
use Rattle.xk_activity.proofs.frames.Frames.slot_count.Goals as goal

pub returns : goal.returns
returns c =
    let v = ap (λ (f : FramesValue). length f.frame.slots) c.self.view_is in
    let l = length_by (is_marked c.self.inside.marks) (drop c.self.inside.base c.self.inside.stack.items) in
    let d = length-drop c.self.inside.base c.self.inside.stack.items in
    let n = c.len.ensures.value in omega arith
