use Rattle.std.proofs.Common.{◌∙◌}
use Rattle.xk_lines.proofs.Parts.{utf8_test}
use Rattle.xk_lines.proofs.signs.is_utf8.Goals as goal

pub returns : goal.returns
returns c = c.is_ok.ensures.value ∙ utf8_test _ _ c.args.bytes.now c.from_utf8.result c.from_utf8.ensures.cases
