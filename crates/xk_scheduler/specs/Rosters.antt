-- Who of a core can take a step, and who is held back by a clock, as they are kept from step to step. This project's own.
use Rattle.std.specs.Prelude.{◌≡◌, ℕ, ◌+◌, ◌<◌, ◌≤◌, List, [], length, replicate}
use Rattle.xk_types.specs.declared.world.Event.{Event}
use Rattle.xk_types.specs.World.{World}
use Rattle.xk_types.specs.Bound.{activities_bound, clocks_bound}
use Rattle.xk_types.specs.Step.{Stepped, step}
use Rattle.xk_collections.specs.NumberSets.{SetValue}
use Rattle.xk_collections.specs.WaitingLists.{WaitingValue, left, taken, times, times_in_all}
use Rattle.xk_core.specs.Core.{CoreValue, IsCore, advanced_now}
use Rattle.xk_scheduler.specs.Choosers.{enabled_in}
use Rattle.xk_scheduler.specs.Waiters.{AreAsked, AreHeld}

-- those who can take a step, rising; for each clock those that it holds back; and how many activities there can be
pub record RosterValue : Type 0 where
  pub members : List ℕ
  pub lists : List (List ℕ)
  pub room : ℕ

-- with nobody in it
abbrev pub empty_roster : ℕ → ℕ → RosterValue
empty_roster acts clocks = record { members = []; lists = replicate clocks []; room = acts }

abbrev pub roster_of : SetValue → WaitingValue → RosterValue
roster_of enabled waiting = record { members = enabled.members; lists = waiting.lists; room = waiting.room }

-- the set, and the lists that are shown, have room for as many activities and clocks as the lists of those who wait
pub record IsRoomy (enabled : SetValue) (waiting : WaitingValue) (shown advanced : ℕ) : Type 0 where
  pub set : waiting.room ≤ enabled.room
  pub acts : waiting.room ≤ shown
  pub clocks : length waiting.lists ≤ advanced

-- it has room for all activities and clocks of the world
pub record HasRoomFor (w : World) (r : RosterValue) : Type 0 where
  pub acts : length w.activities ≤ r.room
  pub clocks : length w.clocks ≤ length r.lists

-- The set has those who can take a step, and the lists those who wait at an `advance` and can't; they have room for all activities and all clocks
-- that a run of the module can have.
pub record IsListed (c : CoreValue) (r : RosterValue) : Type 0 where
  pub core : IsCore c.module_run c.world
  pub list_is : r.members ≡ enabled_in c.module_run c.world
  pub held : AreHeld c.world r.lists
  pub roomy : activities_bound c.module_run ≤ r.room
  pub roomy_clocks : clocks_bound c.module_run ≤ length r.lists

-- it tells of the world before a step of activity a, which was seen so and led to this core
pub record IsBehind (c : CoreValue) (a : ℕ) (e : Event) (r : RosterValue) : Type 0 where
  pub before : World
  pub stepped : step c.module_run before a ≡ Stepped c.world e
  pub listed : IsListed (record { module_run = c.module_run; world = before }) r

-- who stands in a list is an activity of the world, for which there is room
pub record AreThere (w : World) (r : RosterValue) : Type 0 where
  pub there : (b : ℕ) → 0 < times_in_all b r.lists → b < length w.activities
  pub room : HasRoomFor w r

-- activity a of the world, for which there is room, stands in no list
pub record StandsOut (w : World) (a : ℕ) (r : RosterValue) : Type 0 where
  pub there : a < length w.activities
  pub nowhere : times_in_all a r.lists ≡ 0
  pub room : HasRoomFor w r

-- these activities of the world, for which there is room, stand in no list, and none of them is told twice
pub record StandOut (w : World) (acts : List ℕ) (r : RosterValue) : Type 0 where
  pub there : (b : ℕ) → 0 < times b acts → b < length w.activities
  pub once : (b : ℕ) → times b acts + times_in_all b r.lists ≤ 1
  pub room : HasRoomFor w r

-- those in the lists of clocks that advanced in the newest step were taken out of these, and asked anew
abbrev pub AreWoken : World → RosterValue → RosterValue → Type 0
AreWoken w r s = AreAsked w (taken r.lists (advanced_now w)) r.members (left r.lists (advanced_now w)) s.members s.lists
