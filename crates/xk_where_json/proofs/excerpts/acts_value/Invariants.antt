use Rattle.std.proofs.Common.{◌≡◌, ◌++◌, map, drop}
use Rattle.serde_json.specs.View.{view}
use Rattle.xk_json.specs.Objects.{number_value}
use Rattle.xk_where_json.proofs.excerpts.acts_value.Given as goal

-- the values so far and those of what is left are those of all
abbrev pub invariant-loop-act : goal.invariant-loop-act
invariant-loop-act l = map view l.values.items ++ map number_value (drop l.act-index l.acts) ≡ map number_value l.acts
