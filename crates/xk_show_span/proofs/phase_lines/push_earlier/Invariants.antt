use Rattle.std.proofs.Common.{◌≡◌, ◌++◌, take}
use Rattle.std.specs.List.{flat_map}
use Rattle.xk_show_span.specs.Phases.{earlier_words}
use Rattle.xk_show_span.proofs.phase_lines.push_earlier.Given as goal

-- those so far
abbrev pub invariant-loop-arrival : goal.invariant-loop-arrival
invariant-loop-arrival l = l.out.items ≡ l.fn.out.items ++ flat_map (earlier_words l.round) (take l.arrival-index l.list)
