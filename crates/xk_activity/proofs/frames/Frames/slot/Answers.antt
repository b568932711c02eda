use Rattle.std.proofs.Common.{◌≡◌, ◌<◌, ◌≤◌, ℕ, ap, ◌∙◌, sym, length, take, drop, subst, slice_get}
use Rattle.std.proofs.Math.Seq.{take-length}
use Rattle.xk_activity.specs.Local.{FramesValue}
use Rattle.xk_activity.specs.Slots.{is_marked, values_of}
use Rattle.xk_activity.proofs.SlotWordLemmas.{length_by}
use Rattle.xk_activity.proofs.FrameStackLemmas.{top_few}
use Rattle.xk_activity.proofs.frames.Frames.slot.Goals as goal

pub value-requires-clause-slot : goal.value-requires-clause-slot
value-requires-clause-slot c =
    let e : c.part.result.now ≡ drop c.self.inside.base c.self.inside.stack.items =
    c.part.ensures ∙ ap (λ xs. drop c.self.inside.base (take (length xs) xs)) c.as_slice-words.ensures ∙ ap (drop c.self.inside.base) (take-length c.self.inside.stack.items) in
    subst (λ (n : ℕ). c.args.s < n)
    (ap (λ (f : FramesValue). length f.frame.slots) (sym c.self.view_is) ∙ length_by (is_marked c.self.inside.marks) (drop c.self.inside.base c.self.inside.stack.items) ∙ ap length (sym e)) c.requires

pub value-requires-clause-few : goal.value-requires-clause-few
value-requires-clause-few c =
    let e : c.part.result.now ≡ drop c.self.inside.base c.self.inside.stack.items =
    c.part.ensures ∙ ap (λ xs. drop c.self.inside.base (take (length xs) xs)) c.as_slice-words.ensures ∙ ap (drop c.self.inside.base) (take-length c.self.inside.stack.items) in
    subst (λ xs. length xs ≤ 64) (sym e) (top_few _ _ _ _ _ _ _ c.self.invariant)

pub returns : goal.returns
returns c =
    let e : c.part.result.now ≡ drop c.self.inside.base c.self.inside.stack.items =
    c.part.ensures ∙ ap (λ xs. drop c.self.inside.base (take (length xs) xs)) c.as_slice-words.ensures ∙ ap (drop c.self.inside.base) (take-length c.self.inside.stack.items) in
    ap (λ (f : FramesValue). slice_get f.frame.slots c.args.s) (sym c.self.view_is) ∙ ap (λ xs. slice_get (values_of c.self.inside.marks xs) c.args.s) (sym e) ∙ c.value.ensures
