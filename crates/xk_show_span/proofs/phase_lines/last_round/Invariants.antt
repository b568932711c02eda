use Rattle.std.proofs.Common.{◌≡◌, drop}
use Rattle.xk_show_span.specs.Phases.{last_round}
use Rattle.xk_show_span.proofs.phase_lines.last_round.Given as goal

-- the last so far, with the rest
abbrev pub invariant-loop-arrival : goal.invariant-loop-arrival
invariant-loop-arrival l = last_round l.round (drop l.arrival-index l.list) ≡ last_round 0 l.list
