use Rattle.std.proofs.Common.{◌≡◌, drop}
use Rattle.xk_span_summary.specs.Shares.{widths_from, widths_of}
use Rattle.xk_span_summary.proofs.shares.widths_of.Given as goal

-- those so far, with the rest
abbrev pub invariant-loop-i : goal.invariant-loop-i
invariant-loop-i l = widths_from l.times l.i l.widths.items (drop l.i l.deeds) ≡ widths_of l.times l.deeds
