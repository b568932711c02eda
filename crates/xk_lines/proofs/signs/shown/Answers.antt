use Rattle.std.proofs.Common.{◌++◌, length, take, ap, ◌∙◌}
use Rattle.xk_lines.specs.Signs.{signs, shown_signs}
use Rattle.xk_lines.proofs.Parts.{all_signs}
use Rattle.xk_lines.proofs.signs.shown.Goals as goal

pub returns : goal.returns
returns c =
    let text = c.args.text.now in
    c.in_ok-push_signs.ensures ∙ ap (λ l. l ++ shown_signs (take (length text) (signs text))) c.new-shown.ensures.items
    ∙ ap shown_signs (all_signs text)
