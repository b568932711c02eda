-- Walks that end where the table refuses to go on, and the least of them. This project's own.
use Rattle.std.specs.Prelude.{◌≡◌, ℕ, ◌<◌, ◌≤◌, List, [], ◌∷◌, length, Some, slice_get, IsTrue}
use Rattle.xk_types.specs.declared.rules.Rule.{Rule}
use Rattle.xk_types.specs.declared.rules.Kind.{Kind}
use Rattle.xk_types.specs.declared.rules.Visit.{Visit}
use Rattle.xk_types.specs.Code.{UnitValue, ModuleValue}
use Rattle.xk_types.specs.RuleNames.{kind_place}
use Rattle.xk_types.specs.Order.{NotAfter}
use Rattle.xk_types.specs.Walk.{Refused, row, IsWalk, EndsAt, IsVisited, IsRefusedAt}
use Rattle.xk_typestate.specs.declared.fault.KindFault.{KindFault}
use Rattle.xk_typestate.specs.declared.fault.KindError.{KindError}
use Rattle.xk_typestate.specs.declared.fault.KindError.TheVariants.{Fault, OutOfMemory}
use Rattle.xk_typestate.specs.declared.least_refusal.Stop.{Stop}
use Rattle.xk_typestate.specs.KindSet.{KindsValue, kinds_have}
use Rattle.xk_typestate.specs.Place.{visit}

-- ---- the module

-- no walk ends where the table refuses to go on
abbrev pub IsNeverRefused : ModuleValue → Type 0
IsNeverRefused m = (unit s : ℕ) (q : Visit) (r : Rule) → IsRefusedAt m unit s q r → ⊥

-- no walk that ends there has fewer stops
abbrev pub IsShortest : ModuleValue → UnitValue → ℕ → Visit → List Visit → Type 0
IsShortest m u s q walk = (other : List Visit) → IsWalk m u s other → EndsAt other q → length walk ≤ length other

-- the list is a walk of that slot in that unit, and ends there, and none that does is shorter
pub record IsWalkTo (m : ModuleValue) (unit s : ℕ) (q : Visit) (walk : List Visit) : Type 0 where
  pub u : UnitValue
  pub found : slice_get m.units unit ≡ Some u
  pub walked : IsWalk m u s walk
  pub ends : EndsAt walk q
  pub shortest : IsShortest m u s q walk

-- the fault names the least slot and kind that are refused, by unit, instruction, slot and kind, and the rule of the
-- table, and has a walk that ends there, of the shortest
pub record IsKindFault (m : ModuleValue) (f : KindFault) : Type 0 where
  pub refused : IsRefusedAt m f.unit f.slot (visit f.at f.kind) f.rule
  pub least : (unit s : ℕ) (q : Visit) (r : Rule) → IsRefusedAt m unit s q r
      → NotAfter (f.unit ∷ f.at ∷ f.slot ∷ kind_place f.kind ∷ []) (unit ∷ q.at ∷ s ∷ kind_place q.kind ∷ [])
  pub walk : IsWalkTo m f.unit f.slot (visit f.at f.kind) f.walk.items

-- what an error says of the module; nothing is claimed where memory was wanting
abbrev pub FailsModule : ModuleValue → KindError → Type 0
FailsModule m (Fault f) = IsKindFault m f
FailsModule m OutOfMemory = Unit {0}

-- ---- one unit

-- a walk of a slot of the unit ends where the table refuses to go on
pub record IsRefusedIn (m : ModuleValue) (u : UnitValue) (s : ℕ) (q : Visit) (r : Rule) : Type 0 where
  pub slot : s < u.slots
  pub visited : IsVisited m u s q
  pub refused : row m u s q ≡ Refused r

-- no walk of the unit ends so
abbrev pub IsNeverRefusedIn : ModuleValue → UnitValue → Type 0
IsNeverRefusedIn m u = (s : ℕ) (q : Visit) (r : Rule) → IsRefusedIn m u s q r → ⊥

-- the fault names the least place of the unit that is refused, and has a walk that ends there
pub record IsUnitFault (m : ModuleValue) (unit : ℕ) (u : UnitValue) (f : KindFault) : Type 0 where
  pub unit_is : f.unit ≡ unit
  pub refused : IsRefusedIn m u f.slot (visit f.at f.kind) f.rule
  pub least : (s : ℕ) (q : Visit) (r : Rule) → IsRefusedIn m u s q r
      → NotAfter (f.at ∷ f.slot ∷ kind_place f.kind ∷ []) (q.at ∷ s ∷ kind_place q.kind ∷ [])
  pub walked : IsWalk m u f.slot f.walk.items
  pub ends : EndsAt f.walk.items (visit f.at f.kind)
  pub shortest : IsShortest m u f.slot (visit f.at f.kind) f.walk.items

-- what an error says of one unit
abbrev pub FailsUnit : ModuleValue → ℕ → UnitValue → KindError → Type 0
FailsUnit m unit u (Fault f) = IsUnitFault m unit u f
FailsUnit m unit u OutOfMemory = Unit {0}

-- the stop is the least of the unit
pub record IsFirstStop (m : ModuleValue) (u : UnitValue) (stop : Stop) : Type 0 where
  pub refused : IsRefusedIn m u stop.slot (visit stop.at stop.kind) stop.rule
  pub least : (s : ℕ) (q : Visit) (r : Rule) → IsRefusedIn m u s q r
      → NotAfter (stop.at ∷ stop.slot ∷ kind_place stop.kind ∷ []) (q.at ∷ s ∷ kind_place q.kind ∷ [])

-- ---- one instruction

-- no slot is refused there
abbrev pub IsNeverRefusedThere : ModuleValue → UnitValue → ℕ → Type 0
IsNeverRefusedThere m u at = (s : ℕ) (q : Visit) (r : Rule) → q.at ≡ at → IsRefusedIn m u s q r → ⊥

-- the stop is the least there
pub record IsFirstThere (m : ModuleValue) (u : UnitValue) (at : ℕ) (stop : Stop) : Type 0 where
  pub here : stop.at ≡ at
  pub refused : IsRefusedIn m u stop.slot (visit stop.at stop.kind) stop.rule
  pub least : (s : ℕ) (q : Visit) (r : Rule) → q.at ≡ at → IsRefusedIn m u s q r
      → NotAfter (stop.slot ∷ kind_place stop.kind ∷ []) (s ∷ kind_place q.kind ∷ [])

-- ---- one slot there

-- the table refuses no kind of the set
abbrev pub AreAllowed : ModuleValue → UnitValue → ℕ → ℕ → KindsValue → Type 0
AreAllowed m u s at kinds = (k : Kind) (r : Rule) → IsTrue (kinds_have kinds k) → row m u s (visit at k) ≡ Refused r → ⊥

-- the stop has the least kind of the set that the table refuses
pub record IsFirstKind (m : ModuleValue) (u : UnitValue) (s at : ℕ) (kinds : KindsValue) (stop : Stop) : Type 0 where
  pub here : stop.at ≡ at
  pub slot : stop.slot ≡ s
  pub kind : IsTrue (kinds_have kinds stop.kind)
  pub refused : row m u s (visit at stop.kind) ≡ Refused stop.rule
  pub least : (k : Kind) (r : Rule) → IsTrue (kinds_have kinds k) → row m u s (visit at k) ≡ Refused r
      → NotAfter (kind_place stop.kind ∷ []) (kind_place k ∷ [])

-- the kind isn't one of the set, or the table doesn't refuse it
abbrev pub IsAllowed : ModuleValue → UnitValue → ℕ → ℕ → KindsValue → Kind → Type 0
IsAllowed m u s at kinds k = (r : Rule) → IsTrue (kinds_have kinds k) → row m u s (visit at k) ≡ Refused r → ⊥
