-- Where all activities stand on all clocks, as the code keeps it, and what it tells of.
use Rattle.std.specs.Prelude.{ℕ, ◌<◌, ◌==◌, Bool, false, List, map, filter, length, slice_get, slice_index_or}
use Rattle.std.specs.List.{count_by}
use Rattle.std.specs.Option.{option_map_or}
use Rattle.xk_types.specs.declared.world.Standing.{Standing}
use Rattle.xk_types.specs.World.{Clock, standing_of}
use Rattle.xk_types.specs.Step.{is_registered, is_signalled, only, all}
use Rattle.xk_collections.specs.NumberSets.{numbers_from}
use Rattle.xk_registrations.specs.declared.affected_clocks.Which.{Which}
use Rattle.xk_registrations.specs.declared.affected_clocks.Which.TheVariants as which
use Rattle.xk_registrations.specs.View.{Registration, held, told, IsKept}
use Rattle.xk_registrations.specs.RegistrationChanges.{ClocksValue, RegistrationsValue, IsGiven}

-- the clocks in numbers, what each activity is registered on, on how many clocks it may be, and how many activities there is room for
pub record StandingsValue : Type 0 where
  pub numbers : ClocksValue
  pub held : List (List Registration)
  pub places : List ℕ
  pub room : ℕ

-- the clocks of the definitions
abbrev pub told_of : StandingsValue → List Clock
told_of s = told s.numbers.lasts s.held s.numbers.table.clocks

-- the numbers and the registrations belong together
abbrev pub AreKept : StandingsValue → Type 0
AreKept s = IsKept s.numbers.lasts s.held s.numbers.table.clocks

-- what each is registered on
abbrev pub lists : List RegistrationsValue → List (List Registration)
lists rs = map (λ r. r.list) rs

-- on how many each may be
abbrev pub rooms : List RegistrationsValue → List ℕ
rooms rs = map (λ r. r.room) rs

-- how many clocks there is room for, and on how many of them each activity may be registered
pub record Rooms : Type 0 where
  pub clocks : ℕ
  pub places : List ℕ

-- those that were reserved
abbrev pub rooms_of : StandingsValue → Rooms
rooms_of s = record { clocks = s.numbers.table.room; places = s.places }

-- on how many of these clocks activity a is registered
abbrev pub registrations : List Clock → ℕ → ℕ
registrations clocks a = count_by (λ c. is_registered (standing_of c a)) clocks

-- clock k holds activity a back: it is signalled on it
abbrev pub is_held_by : List Clock → ℕ → ℕ → Bool
is_held_by clocks a k = option_map_or (λ c. is_signalled (standing_of c a)) (slice_get clocks k) false

-- the last advance of clock k was in the step of this number
abbrev pub has_advanced_in : List Clock → ℕ → ℕ → Bool
has_advanced_in clocks step k = option_map_or (λ c. c.last == step) (slice_get clocks k) false

-- the clocks of which that holds, rising
abbrev pub advanced_in : List Clock → ℕ → List ℕ
advanced_in clocks step = filter (has_advanced_in clocks step) (numbers_from 0 (length clocks))

-- among these clocks, activity a can make one more
pub record HasRoomToMake (r : Rooms) (clocks : List Clock) (a : ℕ) : Type 0 where
  pub clock : length clocks < r.clocks
  pub place : registrations clocks a < slice_index_or r.places a 0

-- a change of standings on the clocks that a step concerns
abbrev pub change_on : Which → (Standing → Standing) → ℕ → Standing → Standing
change_on which.All change = all change
change_on (which.Only k) change = only k change

-- some activity hands these registrations on
pub record AreHandedOn (s : StandingsValue) (new : List Registration) : Type 0 where
  pub by : ℕ
  pub there : by < length s.held
  pub given : ℕ → Bool
  pub is : IsGiven given (held s.held by) new
