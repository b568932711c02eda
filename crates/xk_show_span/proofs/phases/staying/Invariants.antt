use Rattle.std.proofs.Common.{◌≡◌, take}
use Rattle.std.specs.List.{flat_map}
use Rattle.xk_show_span.specs.Phases.{if_staying}
use Rattle.xk_show_span.proofs.phases.staying.Given as goal

-- those so far
abbrev pub invariant-loop-arrival : goal.invariant-loop-arrival
invariant-loop-arrival l = l.list.items ≡ flat_map (if_staying l.c) (take l.arrival-index l.all)
