use Rattle.std.proofs.Common.{◌≡◌, ℕ, ◌<◌, false}
use Rattle.xk_types.specs.Schedule.{is_enabled}
use Rattle.xk_core.proofs.machine.Core.pick.Given as goal

-- nobody so far is enabled
abbrev pub invariant-loop-a : goal.invariant-loop-a
invariant-loop-a l = (b : ℕ) → b < l.a → is_enabled l.self.module_run l.self.world b ≡ false
