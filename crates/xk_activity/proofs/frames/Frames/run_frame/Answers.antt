use Rattle.std.proofs.Common.{List, ℤ, length, drop, subst, sym, ap, ◌∙◌, ◌≤◌, arith}
use Rattle.xk_types.specs.declared.instr.Instr.{Instr}
use Rattle.xk_activity.specs.Local.{FramesValue, Stepped, IsSafe, ran, turn, spot_of, spot_at, code_of}
use Rattle.xk_activity.specs.Slots.{values_of}
use Rattle.xk_activity.proofs.FrameStackLemmas.{unit_within, top_ok, lent_top, back_on_top, back_below}
use Rattle.xk_activity.proofs.LocalStepLemmas.{next_there}
use Rattle.xk_activity.proofs.FrameRunLemmas.{turns_safe, turns_ran}
use Rattle.xk_activity.proofs.frames.Frames.run_frame.Goals as goal

pub code-code-requires : goal.code-code-requires
code-code-requires c =
    let n = next_there c.args.self.now (c.requires 1) in
    unit_within c.args.self.now.module_run c.args.self.now.frame n.0 n.1

pub run_instructions-place-requires-clause-safe : goal.run_instructions-place-requires-clause-safe
run_instructions-place-requires-clause-safe c =
    let s = c.self.inside in
    subst (λ (ws : List ℤ). IsSafe (turn c.code-code.result.now) (spot_at s.place (values_of s.marks ws)))
    (sym (lent_top s.stack.items c.as_mut_slice-words.result.now s.base c.as_mut_slice-words.ensures.value))
    (subst (λ (is : List Instr). IsSafe (turn is) (spot_at s.place (values_of s.marks (drop s.base s.stack.items)))) (sym c.code-code.ensures.code)
    (subst (λ (f : FramesValue). IsSafe (turn (code_of c.args.self.now.module_run c.args.self.now.frame.unit)) (spot_of f.frame)) (sym c.self.view_is)
    (turns_safe c.args.self.now c.requires)))

pub returns-clause-ran : goal.returns-clause-ran
returns-clause-ran c =
    let s = c.self.inside in
    let step = turn c.code-code.result.now in
    let words = c.as_mut_slice-words.result.now in
    let is = c.as_mut_slice-words.ensures.value in
    let new = c.run_instructions-place.new.words in
    let marks = c.run_instructions-place.new.marks in
    let next = c.run_instructions-place.result.0 in
    let n = c.run_instructions-place.result.1 in
    let lent = lent_top s.stack.items words s.base is in
    let long = c.run_instructions-place.ensures.length ∙ ap (λ (ws : List ℤ). length ws) lent in
    let under : s.base ≤ length s.stack.items = (let t = c.self.invariant.top in omega arith) in
    let top = back_on_top s.stack.items words new _ s.base is under long in
    turns_ran c.args.self.now c.requires n (spot_at next _)
    (ap (λ (is : List Instr). ran (turn is) (spot_of c.args.self.now.frame) n) (sym c.code-code.ensures.code)
    ∙ ap (λ (f : FramesValue). ran step (spot_of f.frame) n) (sym c.self.view_is)
    ∙ ap (λ (ws : List ℤ). ran step (spot_at s.place (values_of s.marks ws)) n) (sym lent)
    ∙ c.run_instructions-place.ensures.ran ∙ ap (λ (ws : List ℤ). Stepped (spot_at next (values_of marks ws))) (sym top))
    ∙ ap Stepped (sym (top_ok _ _ _ s.unit s.place s.marks s.base next marks s.stack.items _ _ c.args.self.now
    c.self.view_is c.self.invariant.stacked (back_below s.stack.items words new _ s.base is under)))
