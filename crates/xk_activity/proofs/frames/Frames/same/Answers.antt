use Rattle.std.proofs.Common.{ℤ, List, sym, arith, subst, length}
use Rattle.std.specs.Prelude.{reverse}
use Rattle.xk_activity.specs.declared.caller.Caller.{Caller}
use Rattle.xk_activity.specs.FrameStack.{AreBelow}
use Rattle.xk_activity.proofs.FrameStackLemmas.{are_below}
use Rattle.xk_activity.proofs.frames.Frames.same.Goals as goal

pub are_same_waiting-requires-clause-stacked : goal.are_same_waiting-requires-clause-stacked
are_same_waiting-requires-clause-stacked c =
    subst (λ (xs : List ℤ). AreBelow (length xs) c.self.inside.base (reverse c.deref.result.now)) (sym c.as_slice-words.ensures)
    (subst (λ (cs : List Caller). AreBelow (length c.self.inside.stack.items) c.self.inside.base (reverse cs)) (sym c.deref.ensures.value)
    (are_below _ _ _ c.self.inside.base (length c.self.inside.stack.items) (reverse c.self.inside.callers.items) c.self.invariant.limits c.self.invariant.stacked
    (let t = c.self.invariant.top in omega arith)))

pub are_same_waiting-requires-clause-other_stacked : goal.are_same_waiting-requires-clause-other_stacked
are_same_waiting-requires-clause-other_stacked c =
    subst (λ (xs : List ℤ). AreBelow (length xs) c.other.inside.base (reverse c.deref-else-not-are_same_slots.result.now)) (sym c.as_slice-others.ensures)
    (subst (λ (cs : List Caller). AreBelow (length c.other.inside.stack.items) c.other.inside.base (reverse cs)) (sym c.deref-else-not-are_same_slots.ensures.value)
    (are_below _ _ _ c.other.inside.base (length c.other.inside.stack.items) (reverse c.other.inside.callers.items) c.other.invariant.limits c.other.invariant.stacked
    (let t = c.other.invariant.top in omega arith)))
