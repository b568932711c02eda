-- The rules on the shape of modules that the compiler keeps. This project's own.
use Rattle.std.specs.Prelude.{◌≡◌, ℕ, Bool, true, false}
use Rattle.xk_types.specs.declared.rules.Rule.{Rule}
use Rattle.xk_types.specs.declared.rules.Rule.TheVariants as shape
use Rattle.xk_types.specs.Code.{ModuleValue}
use Rattle.xk_types.specs.Shape.{breaks}

-- V1 to V7, and V10. The others say which clocks a program may use where, or how far it may go.
abbrev pub is_kept : Rule → Bool
is_kept shape.Target = true
is_kept shape.Block = true
is_kept shape.Slot = true
is_kept shape.Unit = true
is_kept shape.Cell = true
is_kept shape.Loop = true
is_kept shape.End = true
is_kept shape.SameClock = true
is_kept _ = false

-- no place of the module breaks one of them
abbrev pub KeepsShape : ModuleValue → Type 0
KeepsShape m = (r : Rule) → is_kept r ≡ true → (unit at : ℕ) → breaks m r unit at ≡ false
