use Rattle.std.proofs.Common.{◌≡◌, ◌++◌, drop, map}
use Rattle.xk_emit.proofs.units.push_all.Given as goal

-- the names so far and those that are left are all
abbrev pub invariant-loop-name : goal.invariant-loop-name
invariant-loop-name l = map (λ x. x.now) l.names.items ++ map (λ x. x.now) (drop l.name-index l.more) ≡ map (λ x. x.now) l.initial.names.items ++ map (λ x. x.now) l.more
