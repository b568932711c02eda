-- The world of a running program.
--
-- X10 Language Specification 2.4: an activity runs a statement on its own, and main is the first one (chapter Activities, Spawning an
-- activity and Initial activity); a clock has a phase, and each activity registered on it has resumed it in this phase or has not (chapter
-- Clocks, its beginning and Resuming clocks). How a world is written down is this project's own.
use Rattle.std.specs.Prelude.{◌≡◌, ℕ, ℤ, ◌-◌, List, [], ◌∷◌, ◌++◌, length, map, Bool, true, false, Option, None, replicate, slice_get, slice_index_or, option_and_then}
use Rattle.std.specs.Option.{option_map_or}
use Rattle.xk_types.specs.declared.instr.Instr.{Instr}
use Rattle.xk_types.specs.declared.world.Value.{Value}
use Rattle.xk_types.specs.declared.world.Value.TheVariants as value
use Rattle.xk_types.specs.declared.world.Status.{Status}
use Rattle.xk_types.specs.declared.world.Status.TheVariants as status
use Rattle.xk_types.specs.declared.world.Standing.{Standing}
use Rattle.xk_types.specs.declared.world.Standing.TheVariants as standing
use Rattle.xk_types.specs.Code.{ModuleValue, params_of}

-- a unit in progress: its number, the instruction that it stands at, its slots
pub record Frame : Type 0 where
  pub unit : ℕ
  pub place : ℕ
  pub slots : List Value

-- A finish is named by the activity that opened it and by how many that one then had open, this one among them. The
-- finish that governs main has no owner.
pub record Finish : Type 0 where
  pub owner : Option ℕ
  pub depth : ℕ

-- An activity, where an F is a unit or a call in progress: the present one, those that wait for it to return, its status, the number
-- of the step of its last pass (until then, what its starter's was at the start), how many finishes it has open, and the finish that
-- governs it. Whether a step is possible, and what else it changes, depends neither on when an activity passed nor on when a clock
-- advanced.
pub record ActivityOf (F : Type 0) : Type 0 where
  pub frame : F
  pub callers : List F
  pub status : Status
  pub since : ℕ
  pub opened : ℕ
  pub governed : Finish

-- an activity of a module
abbrev pub Activity : Type 0
Activity = ActivityOf Frame

-- the activity is over
abbrev pub is_ended : Status → Bool
is_ended status.Running = false
is_ended status.Arrived = false
is_ended status.Ended = true

-- a clock: its phase, the number of the step in which it last advanced, and where each activity stands on it
pub record Clock : Type 0 where
  pub phase : ℕ
  pub last : ℕ
  pub standings : List Standing

-- all there is: activities, clocks, shared numbers, the number of steps taken, and the numbers that main was given, which no step changes
pub record WorldOf (F : Type 0) : Type 0 where
  pub activities : List (ActivityOf F)
  pub clocks : List Clock
  pub cells : List ℤ
  pub steps : ℕ
  pub arguments : List ℤ

-- the world of a module
abbrev pub World : Type 0
World = WorldOf Frame

-- the unit of the lowest of an activity's frames, the first of which is its present one
abbrev pub base_of : Frame → List Frame → ℕ
base_of f [] = f.unit
base_of f (g ∷ gs) = base_of g gs

-- the unit that an activity began with
abbrev pub base_unit : Activity → ℕ
base_unit act = base_of act.frame act.callers

-- the finish that governs main
abbrev pub root : Finish
root = record { owner = None; depth = 0 }

-- how many slots a unit has
abbrev pub slots_of : ModuleValue → ℕ → ℕ
slots_of m u = option_map_or (λ unit. unit.slots) (slice_get m.units u) 0

-- a unit's frame before its first step
abbrev pub start_of : ModuleValue → ℕ → Frame
start_of m u = record { unit = u; place = 0; slots = replicate (slots_of m u) value.Unset }

-- the frame of a unit before its first step, its parameters being given these values
abbrev pub frame_with : ModuleValue → ℕ → List Value → Frame
frame_with m u values = record { unit = u; place = 0; slots = values ++ replicate (slots_of m u - length values) value.Unset }

-- main before its first step, its parameters being given these numbers
abbrev pub main_of : ModuleValue → List ℤ → Activity
main_of m args = record {
  frame = frame_with m 0 (map (λ n. value.Number n) args);
  callers = [];
  status = status.Running;
  since = 0;
  opened = 0;
  governed = root;
}

-- main alone, no clock, no step
abbrev pub opening : ModuleValue → List ℤ → World
opening m args = record { activities = main_of m args ∷ []; clocks = []; cells = m.shared; steps = 0; arguments = args }

-- as many numbers as main takes
abbrev pub AreArguments : ModuleValue → List ℤ → Type 0
AreArguments m args = length args ≡ length (params_of m 0)

-- where an activity stands on a clock
abbrev pub standing_of : Clock → ℕ → Standing
standing_of c a = slice_index_or c.standings a standing.Apart

-- the instruction that a frame stands at, if there is one
abbrev pub instruction_at : ModuleValue → Frame → Option Instr
instruction_at m f = option_and_then (λ unit. slice_get unit.code f.place) (slice_get m.units f.unit)
