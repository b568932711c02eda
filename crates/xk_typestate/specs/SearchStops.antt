-- The stops that a search has found, and the walks that led to them. This project's own.
use Rattle.std.specs.Prelude.{◌≡◌, ℕ, zero, suc, ◌<◌, List, Option, Some, None}
use Rattle.xk_types.specs.declared.rules.Visit.{Visit}
use Rattle.xk_types.specs.Code.{UnitValue, ModuleValue}
use Rattle.xk_typestate.specs.Search.{IsFound, Came}
use Rattle.xk_typestate.specs.declared.fixed_point.Found.{Found}

-- the stop stands there
abbrev pub IsPlaceOf : List Found → Visit → ℕ → Type 0
IsPlaceOf found q n = (f : Found) × IsFound found n f × (f.stop ≡ q)

-- it stands there first
abbrev pub IsFirstPlaceOf : List Found → Visit → ℕ → Type 0
IsFirstPlaceOf found q n = IsPlaceOf found q n × ((k : ℕ) → k < n → IsPlaceOf found q k → ⊥)

-- to go back from a place to where a walk begins takes so many stops
abbrev pub StopsBack : List Found → Option ℕ → ℕ → Type 0
StopsBack found None n = n ≡ 0
StopsBack found (Some place) zero = ⊥
StopsBack found (Some place) (suc n) = (f : Found) × IsFound found place f × StopsBack found f.from n

-- it stands nowhere
abbrev pub IsNowhere : List Found → Visit → Type 0
IsNowhere found q = (n : ℕ) → IsPlaceOf found q n → ⊥

-- each was come to from one before it, or begins a walk
abbrev pub ComesFromBefore : List Found → Type 0
ComesFromBefore found = (n : ℕ) (f : Found) (before : ℕ) → IsFound found n f → f.from ≡ Some before → before < n

-- each stop found was come to as it says
abbrev pub HasCome : ModuleValue → UnitValue → ℕ → List Found → Type 0
HasCome m u s found = (n : ℕ) (f : Found) → IsFound found n f → Came m u s found n f.stop f.from
