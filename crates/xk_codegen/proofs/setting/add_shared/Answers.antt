use Rattle.std.proofs.Common.{◌∙◌}
use Rattle.xk_codegen.proofs.ListLemmas.{shared_step}
use Rattle.xk_codegen.proofs.setting.add_shared.Goals as goal

pub loop-i-preserved : goal.loop-i-preserved
loop-i-preserved c = λ x. shared_step _ c.loop-i.table c.put.new.self c.args.shared.now c.loop-i.i x c.loop-i-test.true c.in_ok-put.ensures.entry ∙ c.loop-i.invariant x
