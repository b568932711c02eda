use Rattle.std.proofs.Common.{◌∙◌, sym, arith}
use Rattle.xk_lines.specs.Signs.{signs}
use Rattle.xk_lines.proofs.Parts.{drop_next, drop_none}
use Rattle.xk_lines.proofs.signs.skip_signs.Goals as goal

pub returns-in_default : goal.returns-in_default
returns-in_default c =
    c.in_default.ensures.cases ∙ drop_none c.loop.counter c.args.count (signs c.args.text.now) (sym c.in_default.ensures.cases ∙ c.loop.invariant) (omega arith)

pub loop-preserved : goal.loop-preserved
loop-preserved c = drop_next c.loop.counter (signs c.args.text.now) _ _ (sym c.in-Some.ensures.cases ∙ c.loop.invariant)
