-- The kinds of slots at each instruction, exactly. This project's own.
use Rattle.std.specs.Prelude.{◌≡◌, ℕ, ◌<◌, ◌↔◌, List, [], length, slice_get, slice_index_or, Some, IsTrue}
use Rattle.xk_types.specs.declared.rules.Visit.{Visit}
use Rattle.xk_types.specs.Code.{UnitValue, ModuleValue}
use Rattle.xk_types.specs.Walk.{IsVisited}
use Rattle.xk_typestate.specs.KindSet.{KindsValue, no_kinds}
use Rattle.xk_typestate.specs.Search.{holds}
use Rattle.xk_typestate.specs.LeastRefusal.{IsNeverRefused}

-- one set for each instruction, with the kinds that walks of the slot have there
pub record AreSlotKinds (m : ModuleValue) (u : UnitValue) (s : ℕ) (t : List KindsValue) : Type 0 where
  pub long : length t ≡ length u.code
  pub exact : (q : Visit) → IsTrue (holds t q) ↔ IsVisited m u s q

-- the kinds of each slot of the unit
pub record IsKindTable (m : ModuleValue) (u : UnitValue) (ts : List (List KindsValue)) : Type 0 where
  pub slots : length ts ≡ u.slots
  pub each : (s : ℕ) → s < u.slots → AreSlotKinds m u s (slice_index_or ts s [])

-- the kinds of a slot before an instruction
abbrev pub kinds_in : List (List KindsValue) → ℕ → ℕ → KindsValue
kinds_in ts s at = slice_index_or (slice_index_or ts s []) at no_kinds

-- the same of a unit
abbrev pub kinds_at : List (List (List KindsValue)) → ℕ → ℕ → ℕ → KindsValue
kinds_at table unit at s = kinds_in (slice_index_or table unit []) s at

-- the tables of all units
pub record AreKindTables (m : ModuleValue) (table : List (List (List KindsValue))) : Type 0 where
  pub units : length table ≡ length m.units
  pub each : (n : ℕ) (u : UnitValue) → slice_get m.units n ≡ Some u → IsKindTable m u (slice_index_or table n [])

-- no walk of the module is refused, and the table has its kinds
pub record IsTyped (m : ModuleValue) (table : List (List (List KindsValue))) : Type 0 where
  pub never : IsNeverRefused m
  pub kinds : AreKindTables m table
