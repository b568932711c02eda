use Rattle.std.proofs.Common.{◌≡◌, ◌++◌, take}
use Rattle.std.specs.List.{flat_map}
use Rattle.xk_show_span.specs.Phases.{last_words}
use Rattle.xk_show_span.proofs.phase_lines.push_lasts.Given as goal

-- those so far
abbrev pub invariant-loop-arrival : goal.invariant-loop-arrival
invariant-loop-arrival l = l.out.items ≡ l.fn.out.items ++ flat_map (last_words l.places) (take l.arrival-index l.list)
