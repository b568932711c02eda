-- Places of a module, and the kinds that slots may have there. This project's own.
use Rattle.std.specs.Prelude.{◌≡◌, ℕ, ◌<◌, length, Some, slice_get}
use Rattle.xk_types.specs.declared.rules.Kind.{Kind}
use Rattle.xk_types.specs.declared.rules.Visit.{Visit}
use Rattle.xk_types.specs.Code.{UnitValue, ModuleValue}
use Rattle.xk_types.specs.Walk.{IsVisited}

-- a stop of a walk: an instruction, and the kind before it
abbrev pub visit : ℕ → Kind → Visit
visit at k = record { at = at; kind = k }

-- the unit, the instruction and the slot exist
pub record HasPlace (m : ModuleValue) (unit at s : ℕ) : Type 0 where
  pub u : UnitValue
  pub found : slice_get m.units unit ≡ Some u
  pub place : at < length u.code
  pub slot : s < u.slots

-- some walk of that slot in that unit ends there
pub record IsVisitedIn (m : ModuleValue) (unit s : ℕ) (q : Visit) : Type 0 where
  pub u : UnitValue
  pub found : slice_get m.units unit ≡ Some u
  pub visited : IsVisited m u s q
