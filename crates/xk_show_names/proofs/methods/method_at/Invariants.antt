use Rattle.std.proofs.Common.{◌≡◌, take}
use Rattle.std.specs.Prelude.{option_map}
use Rattle.xk_show_names.specs.Methods.{method_at}
use Rattle.xk_show_names.proofs.methods.method_at.Given as goal

-- the nearest of the units so far
abbrev pub invariant-loop-of_unit : goal.invariant-loop-of_unit
invariant-loop-of_unit l = option_map (λ h. h.now) l.found ≡ method_at (take l.of_unit-index l.origins) l.at
