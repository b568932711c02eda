use Rattle.std.proofs.Common.{length}
use Rattle.xk_names.proofs.program.+any_takes_clock.Given as goal

-- one parameter fewer
abbrev pub decreases-any_takes_clock : goal.decreases-any_takes_clock
decreases-any_takes_clock l = length l.params.now
