use Rattle.std.proofs.Common.{◌≡◌, map, take}
use Rattle.xk_types.specs.declared.world.Value.TheVariants as value
use Rattle.xk_activity.proofs.activities.numbers_held.Given as goal

-- the first of the numbers
abbrev pub invariant-loop-n : goal.invariant-loop-n
invariant-loop-n l = l.values.items ≡ map (λ n. value.Number n) (take l.n-index l.numbers)
