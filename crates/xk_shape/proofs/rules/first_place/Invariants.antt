-- no instruction so far breaks the rule
use Rattle.xk_types.specs.Shape.{breaks_in}
use Rattle.xk_shape.specs.Breach.{IsUnbrokenBefore}
use Rattle.xk_shape.proofs.rules.first_place.Given as goal

abbrev pub invariant-loop-at : goal.invariant-loop-at
invariant-loop-at l = IsUnbrokenBefore (breaks_in l.m l.rule l.unit l.u) l.at
