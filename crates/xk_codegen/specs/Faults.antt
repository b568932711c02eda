-- Which faults a program has. This project's own.
use Rattle.std.specs.Prelude.{◌≡◌, ◌≤◌, ◌⊎◌, ℕ, List, Some, length, slice_get}
use Rattle.xk_types.specs.Code.{IsUnitWithinLimits}
use Rattle.xk_tree.specs.declared.fault.FrontRule.TheVariants as rule
use Rattle.xk_tree.specs.declared.fault.FrontFault.{FrontFault}
use Rattle.xk_tree.specs.Tree.{SharedValue, TreeValue}
use Rattle.xk_names.specs.Faults.{HasFault, IsReported, fault}
use Rattle.xk_callgraph.specs.Recursion.{HasRecursion}
use Rattle.xk_emit.specs.CodeOf.{Setting}
use Rattle.xk_source_semantics.specs.Parts.{Part}
use Rattle.xk_numbering.specs.Views.{offset}
pub use Rattle.xk_numbering.specs.Recursion.{IsFalling}
use Rattle.xk_source_semantics.specs.Compilation.{AreUnits, IsSetting, unit_of_part}

-- a part of these units goes beyond a limit: the 1,025th, or one whose unit has too many slots or instructions, or an instruction with too many
-- arguments
pub data IsLarge (units : List Part) (cx : Setting) (p : Part) : Type 0 where
  Beyond : slice_get units 1024 ≡ Some p → IsLarge units cx p
  Large : (k : ℕ) → slice_get units k ≡ Some p → (IsUnitWithinLimits (unit_of_part cx p) → ⊥) → IsLarge units cx p

-- the fault F14 at the least offset of a part of these units that goes beyond a limit
pub record IsFirstLarge (units : List Part) (cx : Setting) (f : FrontFault) : Type 0 where
  pub part : Part
  pub large : IsLarge units cx part
  pub is : f ≡ fault rule.Table (offset part)
  pub first : (q : Part) → IsLarge units cx q → offset part ≤ offset q

-- the same of the units that a program has
pub record HasLargePart (t : TreeValue) (f : FrontFault) : Type 0 where
  pub units : List Part
  pub setting : Setting
  pub are_units : AreUnits t units
  pub is_setting : IsSetting t units setting
  pub first : IsFirstLarge units setting f

-- A table goes over its limit, and the fault is the one that is told.
pub data IsTableFault (t : TreeValue) (f : FrontFault) : Type 0 where
  -- more than 256 shared numbers: at the 257th
  ManyShared : (s : SharedValue) → slice_get t.shared 256 ≡ Some s → f ≡ fault rule.Table s.name.at → IsTableFault t f
  -- else a part that goes beyond a limit
  LargePart : length t.shared ≤ 256 → HasLargePart t f → IsTableFault t f

-- no fault of names, F5 to F9, F11, F12 or F15
abbrev pub IsClean : TreeValue → Type 0
IsClean t = (g : FrontFault) → HasFault t g → ⊥

-- The program has the fault, one of F5 to F12, F14 and F15, and it is the one that is told: of F5 to F8, F11, F12 and F15 the first; F9 where there is
-- none of these; F10 where there is no fault of names; F14 where there is none of all those. Of several calls that are F10, which one is told is left
-- open.
pub data IsFaultOf (t : TreeValue) (f : FrontFault) : Type 0 where
  InNames : IsReported t f → IsFaultOf t f
  InCalls : IsClean t → HasRecursion t f → IsFaultOf t f
  InTables : IsClean t → IsFalling t → IsTableFault t f → IsFaultOf t f

-- both are recursive calls of one program
abbrev pub AreRecursive : TreeValue → FrontFault → FrontFault → Type 0
AreRecursive t f g = HasRecursion t f × HasRecursion t g

-- two faults that may be told of one program are the same, or both are recursive calls
abbrev pub IsToldOnce : TreeValue → FrontFault → FrontFault → Type 0
IsToldOnce t f g = (f ≡ g) ⊎ AreRecursive t f g
