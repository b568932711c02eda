use Rattle.std.proofs.Common.{◌≡◌, [], sym, ◌∙◌}
use Rattle.xk_lines.specs.Lines.{first_line}
use Rattle.xk_lines.proofs.Fronts.{first_line_at_end, first_line_ended, first_line_is}
use Rattle.xk_lines.proofs.lines.first_line.Goals as goal
use Rattle.xk_lines.proofs.lines.first_line.Goals.{in_default, in-len1-up+then-ends_line}

pub returns : goal.returns
returns c =
    let rest = c.loop-rest.rest.now in
    let none : first_line rest ≡ [] = elim c.if-rest-lt1.branch [
      | in_default w ↦ first_line_at_end rest w.in_default.len_below
      | in-len1-up+then-ends_line w ↦ first_line_ended rest (sym w.ends_line.ensures ∙ w.if-ends_line.true)
    ] in
    first_line_is c.args.text.now rest c.loop-rest.len c.loop-rest.invariant.so_far none
