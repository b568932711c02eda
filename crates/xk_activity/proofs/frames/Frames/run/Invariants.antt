use Rattle.std.proofs.Common.{◌≡◌, ◌≤◌}
use Rattle.xk_activity.specs.Local.{Stepped, ran, local}
use Rattle.xk_activity.proofs.frames.Frames.run.Given as goal

abbrev pub invariant-loop-n : goal.invariant-loop-n
invariant-loop-n l = (ran local l.initial.self l.done ≡ Stepped l.self) × (l.self.module_run ≡ l.initial.self.module_run) × (l.n ≤ l.done) × (l.done ≤ l.fn.max)
