-- What a refusal says of the module that it refuses. This project's own.
use Rattle.std.specs.Prelude.{◌≡◌, ◌<◌, ◌≤◌}
use Rattle.xk_types.specs.declared.rules.Rule.{Rule}
use Rattle.xk_types.specs.Code.{ModuleValue}
use Rattle.xk_types.specs.RuleNames.{rule_number}
use Rattle.xk_types.specs.Shape.{HasShape}
use Rattle.xk_types.specs.Bound.{bound_of, limit_of}
use Rattle.xk_shape.specs.declared.fault.ShapeError.{ShapeError}
use Rattle.xk_shape.specs.declared.fault.ShapeError.TheVariants as shape_error
use Rattle.xk_shape.specs.Fault.{IsShapeFault}
use Rattle.xk_typestate.specs.declared.fault.KindFault.{KindFault}
use Rattle.xk_typestate.specs.declared.fault.KindError.{KindError}
use Rattle.xk_typestate.specs.declared.fault.KindError.TheVariants as kind_error
use Rattle.xk_typestate.specs.LeastRefusal.{IsKindFault, IsNeverRefused}
use Rattle.xk_bounds.specs.declared.refusal.BoundFault.{BoundFault}
use Rattle.xk_bounds.specs.declared.refusal.Refusal.{Refusal}
use Rattle.xk_bounds.specs.declared.refusal.Refusal.TheVariants as refusal

-- the fault names the first rule on bounds that is broken, and its limit
pub record IsBoundFault (m : ModuleValue) (f : BoundFault) : Type 0 where
  pub limit : f.limit ≡ limit_of f.rule
  pub broken : limit_of f.rule < bound_of m f.rule
  pub first : (r : Rule) → rule_number r < rule_number f.rule → bound_of m r ≤ limit_of r

-- ---- shape, kinds and bounds, one after another

-- a fault of kinds, in a module that has the shape
pub record RefusesKind (m : ModuleValue) (f : KindFault) : Type 0 where
  pub shape : HasShape m
  pub fault : IsKindFault m f

-- a fault of bounds, in a module that has the shape and whose kinds are in order
pub record RefusesBound (m : ModuleValue) (f : BoundFault) : Type 0 where
  pub shape : HasShape m
  pub kinds : IsNeverRefused m
  pub fault : IsBoundFault m f

-- what each refusal says; nothing is claimed where memory was wanting
abbrev pub Refuses : ModuleValue → Refusal → Type 0
Refuses m (refusal.Shape f) = IsShapeFault m f
Refuses m (refusal.Kind f) = RefusesKind m f
Refuses m (refusal.Bound f) = RefusesBound m f
Refuses m refusal.OutOfMemory = Unit {0}

-- the refusal that an error of the shape is, and one of the kinds
abbrev pub of_shape : ShapeError → Refusal
of_shape (shape_error.Fault f) = refusal.Shape f
of_shape shape_error.OutOfMemory = refusal.OutOfMemory

abbrev pub of_kinds : KindError → Refusal
of_kinds (kind_error.Fault f) = refusal.Kind f
of_kinds kind_error.OutOfMemory = refusal.OutOfMemory
