use Rattle.std.proofs.Common.{◌≡◌, ◌++◌, map, drop}
use Rattle.serde_json.specs.View.{view}
use Rattle.xk_json.specs.Objects.{integers_value}
use Rattle.xk_show_json.proofs.outcomes.arrays_of.Given as goal

-- the values so far and those of what is left are those of all
abbrev pub invariant-loop-list : goal.invariant-loop-list
invariant-loop-list l =
    map view l.values.items ++ map integers_value (map (λ x. x.now) (drop l.list-index l.lists))
    ≡ map integers_value (map (λ x. x.now) l.lists)
