use Rattle.std.proofs.Common.{◌≡◌, ◌++◌, drop, map}
use Rattle.xk_emit.proofs.units.push_kinds.Given as goal

-- the kinds so far and those of the names that are left are those of all
abbrev pub invariant-loop-name : goal.invariant-loop-name
invariant-loop-name l = l.kinds.items ++ map (λ _. l.kind) (map (λ x. x.now) (drop l._name-index l.names)) ≡ l.initial.kinds.items ++ map (λ _. l.kind) (map (λ x. x.now) l.names)
