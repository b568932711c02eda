use Rattle.std.proofs.Common.{◌≡◌, ◌++◌, drop, map}
use Rattle.xk_origins.proofs.slots.add_taken.Given as goal

-- the names so far and those that are left are those of all
abbrev pub invariant-loop-x : goal.invariant-loop-x
invariant-loop-x l =
    map (λ y. y.now) l.found.items ++ map (λ y. y.now) (drop l.x-index l.taken) ≡ map (λ y. y.now) l.fn.found.items ++ map (λ y. y.now) l.taken
