-- What a fault of shape says of the module that has it. This project's own.
use Rattle.std.specs.Prelude.{◌≡◌, ℕ, ◌<◌, true, false, [], ◌∷◌}
use Rattle.xk_types.specs.declared.rules.Rule.{Rule}
use Rattle.xk_types.specs.Code.{ModuleValue}
use Rattle.xk_types.specs.RuleNames.{rule_number}
use Rattle.xk_types.specs.Order.{NotAfter}
use Rattle.xk_types.specs.Shape.{breaks}
use Rattle.xk_shape.specs.declared.fault.ShapeFault.{ShapeFault}
use Rattle.xk_shape.specs.declared.fault.ShapeError.{ShapeError}
use Rattle.xk_shape.specs.declared.fault.ShapeError.TheVariants.{Fault, OutOfMemory}

-- the fault names the first rule that a place breaks, and the least place that breaks it
pub record IsShapeFault (m : ModuleValue) (f : ShapeFault) : Type 0 where
  pub broken : breaks m f.rule f.unit f.at ≡ true
  pub first : (r : Rule) (unit at : ℕ) → rule_number r < rule_number f.rule → breaks m r unit at ≡ false
  pub least : (unit at : ℕ) → breaks m f.rule unit at ≡ true → NotAfter (f.unit ∷ f.at ∷ []) (unit ∷ at ∷ [])

-- what each error says; nothing is claimed where memory was wanting
abbrev pub Refuses : ModuleValue → ShapeError → Type 0
Refuses m (Fault f) = IsShapeFault m f
Refuses m OutOfMemory = Unit {0}
