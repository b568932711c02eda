-- What walks tell of slots is so in every run.
--
-- X10 Language Specification 2.4, chapter Clocks, Registering new activities on clocks and Resuming clocks: an activity is
-- registered on a clock or it isn't; one that is has resumed the clock in this phase or hasn't. What each kind says of that is this project's own, as kinds and walks are.
use Rattle.std.specs.Prelude.{◌≡◌, ℕ, ◌<◌, List, length, Some, slice_get}
use Rattle.std.specs.Option.{option_map_or}
use Rattle.xk_types.specs.declared.world.Value.{Value}
use Rattle.xk_types.specs.declared.world.Value.TheVariants as value
use Rattle.xk_types.specs.declared.world.Status.TheVariants as status
use Rattle.xk_types.specs.declared.world.Standing.{Standing}
use Rattle.xk_types.specs.declared.world.Standing.TheVariants as standing
use Rattle.xk_types.specs.declared.rules.Kind.{Kind}
use Rattle.xk_types.specs.declared.rules.Kind.TheVariants as kind
use Rattle.xk_types.specs.Code.{UnitValue, ModuleValue}
use Rattle.xk_types.specs.World.{Frame, Activity, Clock, World, standing_of}
use Rattle.xk_types.specs.Schedule.{Leads}
use Rattle.xk_types.specs.Walk.{IsVisited}

-- ---- the kind of what a slot holds

-- where activity a stands on clock number k
abbrev pub stands_on : List Clock → ℕ → ℕ → Standing
stands_on clocks a k = option_map_or (λ c. standing_of c a) (slice_get clocks k) standing.Apart

-- The kind of a clock's name, by where the activity stands on the clock. Out: it isn't registered. Live: it is, and hasn't resumed
-- the clock since its last pass, or since it was registered. Resumed: it has, and hasn't passed since, whether or not the clock
-- has advanced in the meantime.
abbrev pub kind_by : Standing → Kind
kind_by standing.Apart = kind.Out
kind_by standing.Open = kind.Live
kind_by standing.Signalled = kind.Resumed
kind_by standing.Ahead = kind.Resumed

-- the kind of what a slot holds, by the kind of each clock's name
abbrev pub kind_of : (ℕ → Kind) → Value → Kind
kind_of look value.Unset = kind.Unset
kind_of look (value.Number n) = kind.Number
kind_of look (value.Clock c) = look c

-- ---- the kinds are sound

-- Activity a runs a frame of some unit, with all slots of the unit; the clocks that they name exist; and for each slot, a walk
-- ends at the instruction that the frame stands at with the kind of what the slot holds.
pub record HasVisitedKinds (m : ModuleValue) (clocks : List Clock) (a : ℕ) (f : Frame) : Type 0 where
  pub u : UnitValue
  pub found : slice_get m.units f.unit ≡ Some u
  pub slots : length f.slots ≡ u.slots
  pub known : (s c : ℕ) → slice_get f.slots s ≡ Some (value.Clock c) → c < length clocks
  pub visited : (s : ℕ) (v : Value) → slice_get f.slots s ≡ Some v
      → IsVisited m u s (record { at = f.place; kind = kind_of (λ c. kind_by (stands_on clocks a c)) v })

-- So it is with each running activity of each world that a legal schedule leads to. One that has arrived stands between the two
-- steps of an `advance`, which walks take as one, and one that has ended goes nowhere; nor is anything said of frames that wait.
abbrev pub KindsAreSound : ModuleValue → Type 0
KindsAreSound m = (list : List ℕ) (w : World) → Leads m list w → (a : ℕ) (act : Activity) → slice_get w.activities a ≡ Some act
    → act.status ≡ status.Running → HasVisitedKinds m w.clocks a act.frame
