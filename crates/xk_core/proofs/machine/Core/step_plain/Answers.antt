use Rattle.xk_core.proofs.LocalStepLemmas.{beyond_visible, beyond_last}
use Rattle.xk_core.proofs.machine.Core.step_plain.Goals as goal

pub step_visible-requires-clause-visible : goal.step_visible-requires-clause-visible
step_visible-requires-clause-visible c =
    beyond_visible c.args.self.now c.args.act c.args.instr.now c.requires.here (c.is_seen.ensures.0 c.if-is_seen.true)

pub step_visible-requires-clause-last : goal.step_visible-requires-clause-last
step_visible-requires-clause-last c =
    beyond_last c.args.self.now c.args.act c.args.instr.now c.requires.here (c.is_seen.ensures.0 c.if-is_seen.true)
