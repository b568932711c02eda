-- What is known of all schedules of a module by some worlds that were found: what a search for all that a module can print has to keep to.
use Rattle.std.specs.Prelude.{◌≡◌, ℕ, ℤ, ◌⊎◌, true, List, ◌++◌, Some, slice_get}
use Rattle.std.specs.Option.{option_to_list}
use Rattle.xk_types.specs.declared.world.Event.{Event}
use Rattle.xk_types.specs.Code.{ModuleValue}
use Rattle.xk_types.specs.World.{World, opening}
use Rattle.xk_types.specs.Step.{Stepped, step}
use Rattle.xk_types.specs.Schedule.{Through, run, all_ended, number_printed, printed}
use Rattle.xk_law_commute.specs.PlainWorlds.{AreAlike}
use Rattle.xk_law_commute.specs.QuietSteps.{has_quiet_step}

-- a legal schedule with these arguments leads to this world, and prints these numbers
pub record IsLedTo (m : ModuleValue) (args : List ℤ) (w : World) (numbers : List ℤ) : Type 0 where
  pub list : List ℕ
  pub legal : run m list (opening m args) ≡ Through w
  pub prints : printed m list (opening m args) ≡ numbers

-- `Found` says which worlds were found, each with the numbers that were printed by then: to each of them a legal schedule leads
abbrev pub AreLedTo : ModuleValue → List ℤ → (World → List ℤ → Type 0) → Type 0
AreLedTo m args Found = (w : World) (numbers : List ℤ) → Found w numbers → IsLedTo m args w numbers

-- a world that is alike was found, these numbers being printed by then
pub record HasAlike (Found : World → List ℤ → Type 0) (w : World) (numbers : List ℤ) : Type 0 where
  pub other : World
  pub found : Found other numbers
  pub alike : AreAlike w other

-- where activity a can take a step here, one was found that is like where that leads, with what is printed then
abbrev pub HasNext : ModuleValue → (World → List ℤ → Type 0) → World → List ℤ → ℕ → Type 0
HasNext m Found w numbers a = (u : World) (e : Event) → step m w a ≡ Stepped u e → HasAlike Found u (numbers ++ option_to_list (number_printed e))

-- from each that was found others were: by one quiet step, or by each step
abbrev pub AreExplored : ModuleValue → (World → List ℤ → Type 0) → Type 0
AreExplored m Found = (w : World) (numbers : List ℤ) → Found w numbers
    → ((a : ℕ) × (has_quiet_step m w a ≡ true) × HasNext m Found w numbers a) ⊎ ((a : ℕ) → HasNext m Found w numbers a)

-- whatever a legal schedule prints by which all have ended was printed by then in one that was found and in which all have ended
abbrev pub NothingIsMissed : ModuleValue → List ℤ → (World → List ℤ → Type 0) → Type 0
NothingIsMissed m args Found = (list : List ℕ) (w : World) → run m list (opening m args) ≡ Through w → all_ended w ≡ true
    → (v : World) × Found v (printed m list (opening m args)) × (all_ended v ≡ true)

-- the world is among these, with these numbers
abbrev pub IsIn : List (World × List ℤ) → World → List ℤ → Type 0
IsIn all w numbers = (k : ℕ) × (slice_get all k ≡ Some (w, numbers))
