use Rattle.std.proofs.Common.{◌≡◌, drop}
use Rattle.xk_span.specs.Steps.{work_from, work_of}
use Rattle.xk_show_span.proofs.text.work_of.Given as goal

-- so many so far, with the rest
abbrev pub invariant-loop-deed : goal.invariant-loop-deed
invariant-loop-deed l = work_from l.work (drop l.deed-index l.deeds) ≡ work_of l.deeds
