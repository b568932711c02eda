-- What something that was made rests on: the dependence of data between the steps of one run.
use Rattle.std.specs.Prelude.{◌≡◌, ◌↔◌, ◌⊎◌, ℕ, ◌<◌, false, List, [], ◌∷◌, length, Some, slice_get}
use Rattle.xk_types.specs.Schedule.{is_local}
use Rattle.xk_why.specs.declared.flows.Flow.{Flow}
use Rattle.xk_why.specs.declared.flows.Location.{Location}
use Rattle.xk_why.specs.Slices.{slice_of}
use Rattle.xk_why.specs.Rest.{earlier, rest_of, wanted_by}

-- one of these
abbrev pub IsAmong : {X : Type 0} → X → List X → Type 0
IsAmong x [] = ⊥
IsAmong x (y ∷ ys) = (y ≡ x) ⊎ IsAmong x ys

-- flow number i is f
abbrev pub IsAt : List Flow → ℕ → Flow → Type 0
IsAt fs i f = slice_get fs i ≡ Some f

abbrev pub Uses : Flow → Location → Type 0
Uses f l = (f.first ≡ Some l) ⊎ (f.second ≡ Some l)

-- behind flow number k nothing is left of what stood at location l before
abbrev pub Renews : List Flow → ℕ → Location → Type 0
Renews fs k l = (f : Flow) × IsAt fs k f × (f.to ≡ Some l) × (f.adds ≡ false)

-- What stands at location l before flow number n was made, or added to, by flow number i: none between the two made it anew.
pub record Reaches (fs : List Flow) (n : ℕ) (l : Location) (i : ℕ) : Type 0 where
  pub earlier : i < n
  pub flow : Flow
  pub here : IsAt fs i flow
  pub made : flow.to ≡ Some l
  pub stays : (k : ℕ) → i < k → k < n → Renews fs k l → ⊥

-- flow number j uses what flow number i made
pub record IsMadeOf (fs : List Flow) (j i : ℕ) : Type 0 where
  pub flow : Flow
  pub here : IsAt fs j flow
  pub location : Location
  pub used : Uses flow location
  pub reached : Reaches fs j location i

-- the same by way of these
abbrev pub Leads : List Flow → ℕ → List ℕ → ℕ → Type 0
Leads fs j [] i = IsMadeOf fs j i
Leads fs j (k ∷ ks) i = IsMadeOf fs j k × Leads fs k ks i

-- flow number j rests on flow number i: it uses what that one made, or what one made that rests on it
abbrev pub RestsOn : List Flow → ℕ → ℕ → Type 0
RestsOn fs j i = (ks : List ℕ) × Leads fs j ks i

-- one of these locations, before flow number n: flow number i made what stands there, or what that rests on
pub record IsNeeded (fs : List Flow) (n : ℕ) (wanted : List Location) (i : ℕ) : Type 0 where
  pub location : Location
  pub is_wanted : IsAmong location wanted
  pub maker : ℕ
  pub reached : Reaches fs n location maker
  pub rests : (maker ≡ i) ⊎ RestsOn fs maker i

-- the slice has those, and no others
abbrev pub SliceIsExact : List Flow → List Location → Type 0
SliceIsExact fs wanted = (i : ℕ) → IsAmong i (slice_of fs wanted) ↔ IsNeeded fs (length fs) wanted i

-- step number k, which others can see, made what step number n uses, or what that rests on
pub record IsBehind (n : ℕ) (fs : List Flow) (k : ℕ) : Type 0 where
  pub place : ℕ
  pub flow : Flow
  pub here : IsAt (earlier n fs) place flow
  pub needed : IsNeeded (earlier n fs) (length (earlier n fs)) (wanted_by n fs) place
  pub step : flow.step.number ≡ k
  pub seen : is_local flow.step.event ≡ false

-- step number n, among those that made these, uses what stands at location l
abbrev pub IsUsedBy : ℕ → List Flow → Location → Type 0
IsUsedBy n fs l = (f : Flow) × IsAmong f fs × (f.step.number ≡ n) × Uses f l

-- what is told of step number n has the steps behind it, and no others, by what it uses and nothing else
pub record RestIsExact (n : ℕ) (fs : List Flow) : Type 0 where
  pub used : (l : Location) → IsAmong l (wanted_by n fs) ↔ IsUsedBy n fs l
  pub steps : (k : ℕ) → IsAmong k (rest_of n fs) ↔ IsBehind n fs k
