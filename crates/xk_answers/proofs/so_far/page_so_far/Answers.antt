use Rattle.std.proofs.Common.{◌∙◌, ap}
use Rattle.xk_answers.specs.Explanation.{Tale, drawn_so_far}
use Rattle.xk_answers.proofs.so_far.page_so_far.Goals as goal

pub returns : goal.returns
returns c = c.if_ended.ensures ∙ ap {A = Tale} {B = Tale} (drawn_so_far c.args.legal.now.core.now.world) c.in_ok-tale.ensures
