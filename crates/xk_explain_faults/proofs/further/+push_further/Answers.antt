use Rattle.std.proofs.Common.{◌∙◌, sym}
use Rattle.xk_tree.specs.Program.{tree_value}
use Rattle.xk_explain_faults.proofs.FurtherLemmas.{added_last, added_more, added_zero}
use Rattle.xk_explain_faults.proofs.further.+push_further.Goals as goal

pub returns-then-left-eq0 : goal.returns-then-left-eq0
returns-then-left-eq0 t c = added_zero c.args.left (tree_value c.args.tree.now) c.args.last c.args.faults.now.items c.if-left-eq0.true

pub returns-in-None : goal.returns-in-None
returns-in-None t c =
    added_last c.args.left (tree_value c.args.tree.now) c.args.last c.args.faults.now.items
    (sym c.in-None.is ∙ c.in_ok-next_fault.ensures.listed)

pub returns-in_ok-push-in-Some : goal.returns-in_ok-push-in-Some
returns-in_ok-push-in-Some t c =
    added_more c.push_further.result c.args.left (tree_value c.args.tree.now) c.args.last c.in-Some.next c.args.faults.now.items
    c.push.new.self.items c.push_further.new.faults.items c.if-left-eq0.false
    (sym c.in-Some.is ∙ c.in_ok-next_fault.ensures.listed) c.in_ok-push-in-Some.ensures.items c.push_further.ensures
