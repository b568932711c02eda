use Rattle.std.proofs.Common.{◌≡◌, take}
use Rattle.std.specs.Vec.{vec_capacity}
use Rattle.xk_activity.proofs.activities.Activities.copy.Given as goal

-- those passed were copied
abbrev pub invariant-loop-act : goal.invariant-loop-act
invariant-loop-act l =
    (l.list.items ≡ take l.act-index l.self-inside.list.items) × (vec_capacity l.list ≡ vec_capacity l.self-inside.list)
