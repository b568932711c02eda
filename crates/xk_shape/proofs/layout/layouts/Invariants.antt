-- the units so far are laid out so
use Rattle.std.proofs.Common.{◌≡◌, ℕ, length, Some, slice_get}
use Rattle.xk_types.specs.Code.{UnitValue}
use Rattle.xk_shape.specs.declared.layout.Layout.{Layout}
use Rattle.xk_shape.specs.Layout.{IsLayout}
use Rattle.xk_shape.proofs.layout.layouts.Given as goal

abbrev pub invariant-loop-u : goal.invariant-loop-u
invariant-loop-u l =
    (length l.found.items ≡ l.u-index)
    × ((unit : ℕ) (u : UnitValue) (x : Layout) → slice_get l.m.units unit ≡ Some u → slice_get l.found.items unit ≡ Some x → IsLayout u x)
