use Rattle.std.proofs.Common.{◌≡◌, ◌++◌, take}
use Rattle.std.specs.Vec.{vec_capacity}
use Rattle.xk_collections.proofs.small_set.append.Given as goal

-- those so far were put behind it
abbrev pub invariant-loop-number : goal.invariant-loop-number
invariant-loop-number l =
    (l.list.items ≡ l.initial.list.items ++ take l.number-index l.numbers) × (vec_capacity l.list ≡ vec_capacity l.initial.list)
