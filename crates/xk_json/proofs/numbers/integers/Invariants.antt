use Rattle.std.proofs.Common.{◌≡◌, ◌++◌, map, drop}
use Rattle.serde_json.specs.View.{view}
use Rattle.xk_json.specs.Objects.{integer_value}
use Rattle.xk_json.proofs.numbers.integers.Given as goal

-- the values so far and those of what is left are those of all
abbrev pub invariant-loop-number : goal.invariant-loop-number
invariant-loop-number l = map view l.values.items ++ map integer_value (drop l.number-index l.numbers) ≡ map integer_value l.numbers
