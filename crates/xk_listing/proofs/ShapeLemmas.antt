-- A module with a fault of shape has no shape.
use Rattle.std.proofs.Common.{◌∙◌, sym}
use Rattle.std.proofs.lemmas.Bool.{false≢true}
use Rattle.xk_types.specs.Code.{ModuleValue}
use Rattle.xk_types.specs.Shape.{HasShape}
use Rattle.xk_shape.specs.declared.fault.ShapeFault.{ShapeFault}
use Rattle.xk_shape.specs.Fault.{IsShapeFault}

pub shapeless : (m : ModuleValue) (f : ShapeFault) → IsShapeFault m f → HasShape m → ⊥
shapeless m f fault shape = false≢true (sym (shape f.rule f.unit f.at) ∙ fault.broken)
