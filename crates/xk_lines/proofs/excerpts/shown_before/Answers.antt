use Rattle.xk_lines.specs.Signs.{signs}
use Rattle.xk_lines.proofs.Parts.{before_is}
use Rattle.xk_lines.proofs.excerpts.shown_before.Goals as goal

pub returns : goal.returns
returns c =
    before_is (signs c.args.before.now) (signs c.skip_signs-last.result.now) c.count_signs-count.result c.saturating_sub.result c.new-shown.result.items
    c.push_cut.new.out.items c.push_signs.new.shown.items c.new-shown.ensures.items c.count_signs-count.ensures c.in_ok-push_cut.ensures
    c.saturating_sub.ensures c.skip_signs-last.ensures c.in_ok-push_signs.ensures
