use Rattle.std.proofs.Common.{arith}
use Rattle.xk_outcomes.proofs.search.lone_among.Goals as goal

pub loop-a-init : goal.loop-a-init
loop-a-init c = record { none = λ b less tried enabled. omega (arith, less); one = tt }
