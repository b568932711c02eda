-- How the loops and finishes of units lie. This project's own.
use Rattle.std.specs.Prelude.{◌≡◌, ℕ, List, length, slice_get, Some}
use Rattle.xk_types.specs.Code.{UnitValue, ModuleValue}
use Rattle.xk_types.specs.Shape.{spans}
use Rattle.xk_shape.specs.Nesting.{AreNested}
use Rattle.xk_shape.specs.Tables.{AreTables}
use Rattle.xk_shape.specs.declared.layout.Layout.{Layout}
use Rattle.xk_shape.specs.declared.layout.Layout.TheVariants as layout

-- those of the unit nest, and these are its tables; or else these are all that it has
abbrev pub IsLayout : UnitValue → Layout → Type 0
IsLayout u (layout.Nested t) = AreNested u × AreTables u t
IsLayout u (layout.Amiss all) = (AreNested u → ⊥) × (all.items ≡ spans u)

-- they nest
abbrev pub IsNested : Layout → Type 0
IsNested (layout.Nested t) = Unit {0}
IsNested (layout.Amiss all) = ⊥

-- so lie those of each unit
pub record AreLayouts (m : ModuleValue) (ls : List Layout) : Type 0 where
  pub units : length ls ≡ length m.units
  pub each : (unit : ℕ) (u : UnitValue) (l : Layout) → slice_get m.units unit ≡ Some u → slice_get ls unit ≡ Some l → IsLayout u l
