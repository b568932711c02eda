use Rattle.std.proofs.Common.{◌≡◌, drop}
use Rattle.xk_span_summary.specs.Waits.{waits_from, waits_of}
use Rattle.xk_span_summary.proofs.waits.waits_of.Given as goal

-- those so far, with the rest
abbrev pub invariant-loop-i : goal.invariant-loop-i
invariant-loop-i l = waits_from l.times l.i l.lasts.items l.waits.items (drop l.i l.deeds) ≡ waits_of l.times l.deeds
