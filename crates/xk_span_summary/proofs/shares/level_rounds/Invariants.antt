use Rattle.std.proofs.Common.{◌≡◌, drop}
use Rattle.xk_span_summary.specs.Shares.{level_rounds, rounds_from}
use Rattle.xk_span_summary.proofs.shares.level_rounds.Given as goal

-- so many so far, with the rest
abbrev pub invariant-loop-width : goal.invariant-loop-width
invariant-loop-width l = rounds_from l.p l.rounds (drop l.width-index l.widths) ≡ level_rounds l.p l.widths
