use Rattle.std.proofs.Common.{List, ℤ, drop, length, sym, ap, subst, ◌∙◌}
use Rattle.xk_activity.specs.Local.{carried, spot_at}
use Rattle.xk_activity.specs.Interpreter.{Answers}
use Rattle.xk_activity.specs.Slots.{values_of}
use Rattle.xk_activity.proofs.OperandLemmas.{turn_answers}
use Rattle.xk_activity.proofs.FrameStackLemmas.{lent_top, back_on_top}
use Rattle.xk_activity.proofs.frames.step_top.Goals as goal

pub returns-clause-stepped : goal.returns-clause-stepped
returns-clause-stepped c =
    let old = c.args.stack.now.items in
    let words = c.as_mut_slice-words.result.now in
    let is = c.as_mut_slice-words.ensures.value in
    let i = c.index-code-at.result in
    let values = values_of c.args.marks.now (drop c.args.base old) in
    let lent = lent_top old words c.args.base is in
    let long = c.execute.ensures.length ∙ ap (λ (ws : List ℤ). length ws) lent in
    turn_answers c.args.code.now (spot_at c.args.place values) i values c.execute.result _ c.requires.right c.index-code-at.is
    (subst (λ (ws : List ℤ). Answers (carried c.args.code.now (spot_at c.args.place values) i) values c.execute.result
    (values_of c.execute.new.marks ws)) (sym (back_on_top old words c.execute.new.words _ c.args.base is c.requires.base long))
    (subst (λ (ws : List ℤ). Answers (carried c.args.code.now (spot_at c.args.place (values_of c.args.marks.now ws)) i)
    (values_of c.args.marks.now ws) c.execute.result (values_of c.execute.new.marks c.execute.new.words)) lent c.execute.ensures.answers))
