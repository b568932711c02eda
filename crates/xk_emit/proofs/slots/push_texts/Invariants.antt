use Rattle.std.proofs.Common.{◌≡◌, ◌++◌, drop, map}
use Rattle.xk_emit.specs.CodeOf.{slots_of}
use Rattle.xk_emit.proofs.slots.push_texts.Given as goal

-- the slots so far and those of the names that are left are those of all
abbrev pub invariant-loop-name : goal.invariant-loop-name
invariant-loop-name l = l.slots.items ++ slots_of l.scope (map (λ x. x.now) (drop l.name-index l.names)) ≡ l.initial.slots.items ++ slots_of l.scope (map (λ x. x.now) l.names)
