use Rattle.std.proofs.Common.{◌≡◌, take}
use Rattle.std.specs.Vec.{vec_capacity}
use Rattle.xk_registrations.proofs.standings.Standings.copy.Given as goal

-- those passed were copied
abbrev pub invariant-loop-registrations : goal.invariant-loop-registrations
invariant-loop-registrations l =
    (l.held.items ≡ take l.registrations-index l.self-inside.held.items) × (vec_capacity l.held ≡ vec_capacity l.self-inside.held)
