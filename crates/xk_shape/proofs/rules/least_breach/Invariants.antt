-- no unit so far breaks the rule
use Rattle.std.proofs.Common.{◌≡◌, ℕ, ◌<◌, false}
use Rattle.xk_types.specs.Shape.{breaks}
use Rattle.xk_shape.proofs.rules.least_breach.Given as goal

abbrev pub invariant-loop-u : goal.invariant-loop-u
invariant-loop-u l = (l.unit ≡ l.u-index) × ((unit at : ℕ) → unit < l.u-index → breaks l.m l.rule unit at ≡ false)
