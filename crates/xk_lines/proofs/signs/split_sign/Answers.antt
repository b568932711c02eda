use Rattle.std.proofs.Common.{◌≡◌, ◌<◌, length, arith, sym, ◌∙◌}
use Rattle.std.proofs.lemmas.Bool.{eqb-true, eqb-false}
use Rattle.xk_lines.proofs.Parts.{signs_none, signs_step}
use Rattle.xk_lines.proofs.signs.split_sign.Goals as goal

pub returns-then-is_empty-clause-cases : goal.returns-then-is_empty-clause-cases
returns-then-is_empty-clause-cases c = signs_none c.args.text.now (eqb-true _ _ (sym c.is_empty.ensures ∙ c.if-is_empty.true))

pub returns-clause-cases : goal.returns-clause-cases
returns-clause-cases c =
    let text = c.args.text.now in
    let none : length text ≡ 0 → ⊥ = eqb-false _ _ (sym c.is_empty.ensures ∙ c.if-is_empty.false) in
    let some : 0 < length text = omega (arith, none) in
    signs_step text _ _ c.sign_len.result some c.sign_len.ensures.value c.sign_len.ensures.some c.split_at.ensures.front c.split_at.ensures.back
