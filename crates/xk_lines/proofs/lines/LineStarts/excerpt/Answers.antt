use Rattle.std.proofs.Common.{◌≡◌, ◌-◌, ℕ, List, IfOk, length, min, take, drop, subst, ap, ◌∙◌}
use Rattle.std.proofs.lemmas.List.{take_rest}
use Rattle.xk_lines.specs.Lines.{first_line}
use Rattle.xk_lines.proofs.Parts.{excerpt_is}
use Rattle.xk_lines.proofs.lines.LineStarts.excerpt.Goals as goal

pub returns : goal.returns
returns c =
    let text = c.args.self.now in
    let start = c.line-line.result.start in
    let line = c.first_line-text.result.now in
    let k = c.args.offset - start in
    let is : line ≡ first_line (drop start text) =
    c.first_line-text.ensures ∙ ap first_line (take_rest c.self.inside.text.now start) ∙ ap (λ t. first_line (drop start t)) c.self.view_is in
    let before : c.split_at.result.0.now ≡ take (min (length line) k) line = c.split_at.ensures.front ∙ ap (λ j. take j line) c.min.ensures in
    let from : c.split_at.result.1.now ≡ drop (min (length line) k) line = c.split_at.ensures.back ∙ ap (λ j. drop j line) c.min.ensures in
    let whole = excerpt_is text line _ _ c.args.offset c.args.marked c.line-line.result.number start c.line-line.ensures.number c.line-line.ensures.start is before from in
    subst (λ (x : List ℕ). IfOk c.framed.result (λ v. v.items ≡ x)) whole c.framed.ensures
