use Rattle.std.proofs.Common.{◌≡◌, ◌≤◌, length, take}
use Rattle.std.specs.Vec.{vec_capacity}
use Rattle.xk_finishes.proofs.counters.Counters.copy.Given as goal

-- those passed were copied
abbrev pub invariant-loop-depths : goal.invariant-loop-depths
invariant-loop-depths l = (l.owners.items ≡ take l.depths-index l.self) × (length l.self ≤ vec_capacity l.owners)
