use Rattle.std.proofs.Common.{sym, ap, ◌∙◌, ◌++◌, ◌∷◌, [], arith}
use Rattle.xk_activity.proofs.LocalStepLemmas.{values_more}
use Rattle.xk_activity.proofs.frames.Frames.values.Goals as goal

pub loop-s-preserved : goal.loop-s-preserved
loop-s-preserved c =
    c.in_ok-push.ensures.items ∙ ap (λ l. l ++ c.slot-value.result ∷ []) c.loop-s.invariant
    ∙ sym (values_more c.args.self.now.frame.slots c.args.args.now c.loop-s.s-index 0 c.slot-value.result (let t = c.loop-s-test.true in omega arith) c.slot-value.ensures)
