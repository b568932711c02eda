-- Live slots: those whose values may still be read before they are written anew (liveness, as compilers compute it, backwards along the
-- code). Worlds that differ in dead slots alone, and in what activities that have ended left behind, go on alike. A slot that names a clock
-- is one like others: on which clocks an activity is registered stands with the clocks.
use Rattle.std.specs.Prelude.{◌≡◌, ℕ, suc, ◌+◌, ◌==◌, Bool, true, false, not, ◌&&◌, ◌||◌, List, [], ◌∷◌, map, Option, Some, None}
use Rattle.std.specs.Prelude.{option_and_then, if◌then◌else◌}
use Rattle.std.specs.List.{list_any}
use Rattle.xk_types.specs.declared.instr.Instr.{Instr}
use Rattle.xk_types.specs.declared.instr.Instr.TheVariants as instr
use Rattle.xk_types.specs.declared.world.Value.{Value}
use Rattle.xk_types.specs.declared.world.Value.TheVariants as value
use Rattle.xk_types.specs.declared.world.Status.{Status}
use Rattle.xk_types.specs.declared.world.Status.TheVariants as status
use Rattle.xk_types.specs.declared.world.Event.{Event}
use Rattle.xk_types.specs.Code.{ModuleValue, Loop, loop_head}
use Rattle.xk_types.specs.World.{Frame, Activity, World, is_ended, instruction_at}
use Rattle.xk_types.specs.Step.{Outcome, Blocked, Wrong, Stepped, step}
use Rattle.xk_types.specs.Schedule.{all_ended}
use Rattle.xk_law_commute.specs.PlainWorlds.{plain_clock, plain}

-- for each place of each unit, a set of slots
abbrev pub SlotTable : Type 0
SlotTable = ℕ → ℕ → ℕ → Bool

-- ---- what is live

-- behind the frame's instruction
abbrev pub behind : SlotTable → Frame → ℕ → Bool
behind live f s = live f.unit (f.place + 1) s

-- behind one that writes slot d
abbrev pub behind_write : SlotTable → Frame → ℕ → ℕ → Bool
behind_write live f d s = not (s == d) && behind live f s

-- what the end of a turn reads: the slot of the loop, and that of its limit
abbrev pub limit_reads : Option ℕ → ℕ → Bool
limit_reads None s = false
limit_reads (Some x) s = s == x

abbrev pub turn_reads : Option Loop → ℕ → Bool
turn_reads None s = false
turn_reads (Some l) s = (s == l.slot) || limit_reads l.limit s

-- Slot s is live before the instruction at which the frame stands: it reads the slot, or doesn't write it where it
-- leads and leaves it live there.
abbrev pub before : ModuleValue → SlotTable → Frame → Instr → ℕ → Bool
before m live f (instr.Lit d n) s = behind_write live f d s
before m live f (instr.Copy d x) s = (s == x) || behind_write live f d s
before m live f (instr.Add d x y) s = (s == x) || ((s == y) || behind_write live f d s)
before m live f (instr.Sub d x y) s = (s == x) || ((s == y) || behind_write live f d s)
before m live f (instr.Mul d x y) s = (s == x) || ((s == y) || behind_write live f d s)
before m live f (instr.Unless op x y t) s = (s == x) || ((s == y) || (behind live f s || live f.unit t s))
before m live f (instr.Jump t) s = live f.unit t s
before m live f (instr.For k lo hi e) s = behind_write live f k s
before m live f (instr.ForTo k lo x hi e) s = (s == x) || (behind_write live f k s || live f.unit (e + 1) s)
before m live f (instr.Next b) s =
    turn_reads (option_and_then (loop_head b) (instruction_at m (record f { place = b }))) s || (behind live f s || live f.unit (b + 1) s)
before m live f (instr.Finish e) s = behind live f s
before m live f (instr.EndFinish b) s = behind live f s
before m live f (instr.Get d c) s = behind_write live f d s
before m live f (instr.Put c x) s = (s == x) || behind live f s
before m live f (instr.AddTo c x) s = (s == x) || behind live f s
before m live f (instr.Print x) s = (s == x) || behind live f s
before m live f (instr.Make k) s = behind_write live f k s
before m live f (instr.Resume k) s = (s == k) || behind live f s
before m live f (instr.Drop k) s = (s == k) || behind live f s
before m live f instr.Advance s = behind live f s
before m live f (instr.Call t args) s = list_any (λ x. s == x) args || behind live f s
before m live f (instr.Spawn t args) s = list_any (λ x. s == x) args || behind live f s
before m live f instr.Ret s = false

-- the table has all that is live
abbrev pub IsLiveness : ModuleValue → SlotTable → Type 0
IsLiveness m live = (f : Frame) (i : Instr) (s : ℕ) → instruction_at m f ≡ Some i → before m live f i s ≡ true
    → live f.unit f.place s ≡ true

-- ---- worlds without the rest

-- what slots hold, the dead ones nothing
abbrev pub masked : (ℕ → Bool) → List Value → List Value
masked live [] = []
masked live (x ∷ xs) = (if live 0 then x else value.Unset) ∷ masked (λ s. live (suc s)) xs

-- a frame at its instruction
abbrev pub present : SlotTable → Frame → Frame
present live f = record f { slots = masked (live f.unit f.place) f.slots }

-- a frame that will go on behind its instruction
abbrev pub waiting : SlotTable → Frame → Frame
waiting live f = record f { slots = masked (live f.unit (f.place + 1)) f.slots }

abbrev pub no_frame : Frame
no_frame = record { unit = 0; place = 0; slots = [] }

-- the frame of an activity, by its status
abbrev pub frame_left : SlotTable → Status → Frame → Frame
frame_left live status.Running f = present live f
frame_left live status.Arrived f = waiting live f
frame_left live status.Ended f = no_frame

-- those that wait for a return
abbrev pub callers_left : SlotTable → Status → List Frame → List Frame
callers_left live status.Running fs = map (waiting live) fs
callers_left live status.Arrived fs = map (waiting live) fs
callers_left live status.Ended fs = []

-- what of an activity may still count
abbrev pub live_activity : SlotTable → Activity → Activity
live_activity live act = record act {
  frame = frame_left live act.status act.frame;
  callers = callers_left live act.status act.callers;
  since = 0;
}

-- what of the world may
abbrev pub live_part : SlotTable → World → World
live_part live w = record w { activities = map (live_activity live) w.activities; clocks = map plain_clock w.clocks; steps = 0 }

-- what a step comes to, by that
abbrev pub live_outcome : SlotTable → Outcome → Outcome
live_outcome live Blocked = Blocked
live_outcome live (Wrong c) = Wrong c
live_outcome live (Stepped w e) = Stepped (live_part live w) e

-- the worlds differ at most in dead slots, in frames of activities that have ended, in numbers of steps and in phases
abbrev pub AreAlikeWhereLive : SlotTable → World → World → Type 0
AreAlikeWhereLive live w v = live_part live w ≡ live_part live v

-- ---- worlds without the frames of activities that have ended, and else as they are

abbrev pub without_frames : Activity → Activity
without_frames act = record act {
  frame = if is_ended act.status then no_frame else act.frame;
  callers = if is_ended act.status then [] else act.callers;
}

abbrev pub without_ended : World → World
without_ended w = record w { activities = map without_frames w.activities }

abbrev pub AreAlikeButEnded : World → World → Type 0
AreAlikeButEnded w v = plain (without_ended w) ≡ plain (without_ended v)

-- ---- going on

-- Activities can take the same steps in both worlds, with the same events, to worlds that are alike; all have ended in both or in neither;
-- and the shared numbers are the same.
pub record GoOnAlike (m : ModuleValue) (Alike : World → World → Type 0) (w v : World) : Type 0 where
  pub steps : (u : World) (a : ℕ) (e : Event) → step m w a ≡ Stepped u e → (z : World) × (step m v a ≡ Stepped z e) × Alike u z
  pub ends : all_ended w ≡ all_ended v
  pub cells : w.cells ≡ v.cells
