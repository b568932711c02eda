use Rattle.std.proofs.Common.{◌∙◌, ap}
use Rattle.std.proofs.lemmas.Result.{IfOk-weaker}
use Rattle.xk_answers.specs.Explanation.{Tale, told_so_far}
use Rattle.xk_answers.proofs.so_far.events_so_far.Goals as goal

pub returns : goal.returns
returns c =
    let last = c.args.legal.now.core.now.world in
    let tale = ap {A = Tale} {B = Tale} (told_so_far last) c.in_ok-tale.ensures in
    IfOk-weaker c.with_ending.result _ _ (λ told is. is ∙ tale) c.with_ending.ensures
