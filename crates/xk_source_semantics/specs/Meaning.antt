-- What it means that a module does what a program says. This project's own.
use Rattle.std.specs.Prelude.{◌≡◌, ℕ, ℤ, Bool, List, [], ◌∷◌, map, if◌then◌else◌}
use Rattle.std.specs.List.{list_all}
use Rattle.xk_types.specs.declared.world.Event.{Event}
use Rattle.xk_types.specs.declared.world.Standing.{Standing}
use Rattle.xk_types.specs.Code.{ModuleValue}
use Rattle.xk_types.specs.World.{WorldOf, World, opening, is_ended}
use Rattle.xk_types.specs.Step.{OutcomeOf, Blocked, Wrong, Stepped, step}
use Rattle.xk_types.specs.Schedule.{is_local, Leads}
use Rattle.xk_tree.specs.Tree.{TreeValue}
use Rattle.xk_source_semantics.specs.Source.{SourceWorld, source_step, source_opening}

-- a clock's phase, and where each activity stands on it
pub record Stand : Type 0 where
  pub phase : ℕ
  pub standings : List Standing

-- what all activities share
pub record Shown : Type 0 where
  pub clocks : List Stand
  pub cells : List ℤ

abbrev pub shown : {F : Type 0} → WorldOf F → Shown
shown w = record { clocks = map (λ c. record { phase = c.phase; standings = c.standings }) w.clocks; cells = w.cells }

-- a step that others see: whose it is, its event, and what all share after it
pub record Moment : Type 0 where
  pub activity : ℕ
  pub event : Event
  pub after : Shown

-- the moment of a step, if others see it, and those of the rest of the run
abbrev pub moments_on : {F : Type 0} → ℕ → OutcomeOf F → (WorldOf F → List Moment) → List Moment
moments_on a Blocked go = []
moments_on a (Wrong c) go = []
moments_on a (Stepped next e) go = if is_local e then go next else record { activity = a; event = e; after = shown next } ∷ go next

-- the moments of a run
abbrev pub moments : {F : Type 0} → (WorldOf F → ℕ → OutcomeOf F) → List ℕ → WorldOf F → List Moment
moments step [] w = []
moments step (a ∷ list) w = moments_on a (step w a) (moments step list)

-- each of these activities takes a step, in order, and the steps lead from one world to another
abbrev pub Goes : {F : Type 0} → (WorldOf F → ℕ → OutcomeOf F) → List ℕ → WorldOf F → WorldOf F → Type 0
Goes step [] w v = w ≡ v
Goes {F} step (a ∷ list) w v = (next : WorldOf F) × (e : Event) × (step w a ≡ Stepped next e) × Goes step list next v

-- every activity has ended
abbrev pub have_ended : {F : Type 0} → WorldOf F → Bool
have_ended w = list_all (λ act. is_ended act.status) w.activities

-- a run of the program with these arguments and moments, which has ended or hasn't
pub record HasRun (t : TreeValue) (args : List ℤ) (seen : List Moment) (over : Bool) : Type 0 where
  pub list : List ℕ
  pub last : SourceWorld
  pub goes : Goes (source_step t) list (source_opening t args) last
  pub same : moments (source_step t) list (source_opening t args) ≡ seen
  pub ends : have_ended last ≡ over

-- For each legal run of the module there is one of the program with the same arguments and the same moments, and which has ended where that one has.
abbrev pub Means : TreeValue → ModuleValue → Type 0
Means t m = (list : List ℕ) (w : World) → Leads m list w → HasRun t w.arguments (moments (step m) list (opening m w.arguments)) (have_ended w)
