use Rattle.std.proofs.Common.{◌≡◌, ◌+◌, ◌++◌, [], drop, map, length}
use Rattle.xk_emit.specs.Unit.{scope_from}
use Rattle.xk_emit.specs.NameCoverage.{AreNew}
use Rattle.xk_emit.proofs.units.param_scope.Given as goal

-- The scope so far and that of the names that are left are that of all, and their counts too. If each name is new, so are those that are left.
abbrev pub invariant-loop-name : goal.invariant-loop-name
invariant-loop-name l = record {
  scope : l.scope ++ scope_from l.n (map (λ x. x.now) (drop l.name-index l.names)) ≡ scope_from 0 (map (λ x. x.now) l.names);
  count : l.n + length (map (λ x. x.now) (drop l.name-index l.names)) ≡ length (map (λ x. x.now) l.names);
  new : AreNew [] 0 (map (λ x. x.now) l.names) → AreNew l.scope l.n (map (λ x. x.now) (drop l.name-index l.names));
}
