use Rattle.std.proofs.Common.{◌≡◌, take}
use Rattle.std.specs.List.{flat_map}
use Rattle.xk_show_span.specs.Phases.{if_awaited}
use Rattle.xk_show_span.proofs.phases.Coming.awaited.Given as goal

-- those so far
abbrev pub invariant-loop-arrival : goal.invariant-loop-arrival
invariant-loop-arrival l = l.list.items ≡ flat_map (if_awaited l.c) (take l.arrival-index l.self.arrivals)
