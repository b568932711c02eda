-- What a module is known to be whose shape was checked. This project's own.
use Rattle.xk_types.specs.Code.{ModuleValue, IsWithinLimits}
use Rattle.xk_types.specs.Shape.{HasShape}

-- it is within the limits, and no place breaks a rule
pub record IsShaped (m : ModuleValue) : Type 0 where
  pub limits : IsWithinLimits m
  pub shape : HasShape m
