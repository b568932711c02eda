-- What can still be printed from a world, read along edges between worlds that were found: what was printed before is no part of them.
use Rattle.std.specs.Prelude.{◌≡◌, ℕ, zero, suc, ℤ, ◌⊎◌, Bool, true, List, [], ◌++◌, Some, slice_get}
use Rattle.std.specs.Option.{option_to_list}
use Rattle.xk_types.specs.declared.world.Event.{Event}
use Rattle.xk_types.specs.Code.{ModuleValue}
use Rattle.xk_types.specs.World.{World}
use Rattle.xk_types.specs.Step.{Stepped, step}
use Rattle.xk_types.specs.Schedule.{Through, run, IsReached, is_enabled, all_ended, number_printed, printed}
use Rattle.xk_closed.specs.Closed.{IsClosed}

-- n edges lead from this world to one in which all have ended, and these numbers stand along them
abbrev pub Reads : (World → List ℤ → World → Type 0) → ℕ → World → List ℤ → Type 0
Reads Edge zero w numbers = (all_ended w ≡ true) × (numbers ≡ [])
Reads Edge (suc n) w numbers = (v : World) × (more : List ℤ) × (rest : List ℤ) × Edge w more v × Reads Edge n v rest
    × (more ++ rest ≡ numbers)

-- where activity a can take a step here, an edge with what that prints leads to a world that is the same as where the step leads
abbrev pub HasEdge : ModuleValue → (World → World → Type 0) → (World → List ℤ → World → Type 0) → World → ℕ → Type 0
HasEdge m Same Edge w a = (u : World) (e : Event) → step m w a ≡ Stepped u e
    → (v : World) × Same u v × Edge w (option_to_list (number_printed e)) v

-- so it is of the steps of a closed set, in which somebody can take one
pub record HasEdges (m : ModuleValue) (Same : World → World → Type 0) (Edge : World → List ℤ → World → Type 0) (w : World) : Type 0 where
  pub set : ℕ → Bool
  pub closed : IsClosed m w set
  pub free : ℕ
  pub inside : set free ≡ true
  pub enabled : is_enabled m w free ≡ true
  pub next : (a : ℕ) → set a ≡ true → HasEdge m Same Edge w a

-- Worlds that were found are reached; edges lead from one to another; and from each there are those of a closed set, or of each step.
pub record AreLinked (m : ModuleValue) (Same : World → World → Type 0) (Found : World → Type 0)
    (Edge : World → List ℤ → World → Type 0) : Type 0 where
  pub reached : (w : World) → Found w → IsReached m w
  pub within : (w v : World) (more : List ℤ) → Edge w more v → Found v
  pub steps : (w : World) → Found w → HasEdges m Same Edge w ⊎ ((a : ℕ) → HasEdge m Same Edge w a)

-- each edge is of a step that is there, and prints that
abbrev pub AreSteps : ModuleValue → (World → World → Type 0) → (World → Type 0) → (World → List ℤ → World → Type 0) → Type 0
AreSteps m Same Found Edge = (w v : World) (more : List ℤ) → Found w → Edge w more v
    → (a : ℕ) × (u : World) × (e : Event) × (step m w a ≡ Stepped u e) × (more ≡ option_to_list (number_printed e)) × Same u v

-- so many steps lead from this world to where all have ended, and print these numbers
pub record IsPrinted (m : ModuleValue) (w : World) (numbers : List ℤ) : Type 0 where
  pub list : List ℕ
  pub last : World
  pub legal : run m list w ≡ Through last
  pub ended : all_ended last ≡ true
  pub prints : printed m list w ≡ numbers

-- It is printed by a schedule that begins with a step of somebody in the set: so it is printed from one of the worlds
-- to which their steps lead.
pub record IsPrintedBySet (m : ModuleValue) (w : World) (set : ℕ → Bool) (numbers : List ℤ) : Type 0 where
  pub act : ℕ
  pub inside : set act ≡ true
  pub there : World
  pub event : Event
  pub takes : step m w act ≡ Stepped there event
  pub rest : List ℤ
  pub goes : IsPrinted m there rest
  pub prints : option_to_list (number_printed event) ++ rest ≡ numbers

-- what is printed from a world that was found to the end is what can be read along edges from there
pub record AreSuffixes (m : ModuleValue) (Found : World → Type 0) (Edge : World → List ℤ → World → Type 0) : Type 0 where
  pub all : (w : World) (numbers : List ℤ) → Found w → IsPrinted m w numbers → (n : ℕ) × Reads Edge n w numbers
  pub shown : (w : World) (numbers : List ℤ) (n : ℕ) → Found w → Reads Edge n w numbers → IsPrinted m w numbers

-- an edge, and a world, in lists of them
abbrev pub IsEdgeIn : List (World × (List ℤ × World)) → World → List ℤ → World → Type 0
IsEdgeIn edges w more v = (k : ℕ) × (slice_get edges k ≡ Some (w, (more, v)))

abbrev pub IsWorldIn : List World → World → Type 0
IsWorldIn worlds w = (k : ℕ) × (slice_get worlds k ≡ Some w)
