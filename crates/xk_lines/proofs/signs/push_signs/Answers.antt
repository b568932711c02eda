use Rattle.std.proofs.Common.{◌++◌, ◌∙◌, sym, ap, arith}
use Rattle.xk_lines.specs.Signs.{signs, shown_signs}
use Rattle.xk_lines.proofs.Parts.{drop_next, take_none, shown_next}
use Rattle.xk_lines.proofs.signs.push_signs.Goals as goal

pub returns-in_default : goal.returns-in_default
returns-in_default c =
    let ss = signs c.args.text.now in
    let all = take_none c.loop.counter c.args.count ss (sym c.in_default.ensures.cases ∙ c.loop.invariant.left) (omega arith) in
    c.loop.invariant.so_far ∙ ap (λ l. c.args.shown.now.items ++ shown_signs l) all

pub loop-preserved : goal.loop-preserved
loop-preserved c =
    let ss = signs c.args.text.now in
    let left = sym c.in-Some.ensures.cases ∙ c.loop.invariant.left in
    record {
      left = drop_next c.loop.counter ss _ _ left;
      so_far = c.in_ok-push_sign.ensures ∙ shown_next c.args.shown.now.items c.loop.shown.items c.loop.counter ss _ _ left c.loop.invariant.so_far;
    }
