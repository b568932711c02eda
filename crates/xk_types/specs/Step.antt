-- One step of one activity.
--
-- From the X10 Language Specification 2.4, chapter Clocks, by sections. Creating new clocks: `Clock.make()` registers the activity that
-- makes; an activity that ends is registered on no clock any more. Registering new activities on clocks: `async clocked(c1, .., cn) S`
-- starts an activity registered on the clocks named, and the starter must be registered on each. Resuming clocks: `resume` says that
-- the activity has done its work in the phase and doesn't block; a second one in the phase has no effect (and Program equivalences).
-- Advancing clocks: `advanceAll` resumes every clock of the activity and blocks until all of them have advanced. Dropping clocks:
-- `drop` ends the registration. All of these: an operation on a clock without a registration raises ClockUseException. The chapter's
-- beginning: a clock advances when every activity registered on it has resumed it.
-- From the chapter Activities. Spawning an activity: `async S` starts an activity that runs S, and the starter goes on without
-- waiting. Finish: `finish S` runs S, and waits for the end of all activities that S started, and that these started in turn. Atomic
-- blocks: `atomic S` runs S in one step as others see it.
-- From other chapters: a `Long` has 64 bits in two's complement, and its sums, differences and products wrap; `for (i in a..b)` runs for
-- each whole number from a to b.
-- This project's own rules: a shared number is read, written or added to in one step, and there is no other `atomic`; an activity's
-- phase ends with its pass, so that a resume of one that is ahead has no effect; the two halves of `advanceAll` are two steps; a child
-- stands on a clock that it is given where its starter stands, and a missing registration is the only ground of ClockUseException, so
-- that a starter that has resumed a clock may hand it on; a clock that can advance does so at the end of the same step, and one that
-- nobody is registered on never does; what else is wrong but ClockUseException.
use Rattle.std.specs.Prelude.{ℕ, zero, suc, ℤ, pos, ◌+ℤ◌, int_lt, int_le, ◌+◌, ◌==◌, Bool, true, false, not, ◌&&◌, ◌||◌, List, [], ◌∷◌, ◌++◌, map, length, replicate, Option, Some, None, option_and_then, slice_get, slice_set, if◌then◌else◌}
use Rattle.std.specs.Int.{w64, int_min, int_wrapping_add, int_wrapping_sub, int_wrapping_mul}
use Rattle.std.specs.List.{list_any}
use Rattle.std.specs.Option.{option_map_or}
use Rattle.xk_types.specs.declared.instr.Instr.{Instr}
use Rattle.xk_types.specs.declared.instr.Instr.TheVariants as instr
use Rattle.xk_types.specs.declared.instr.Comparison.{Comparison}
use Rattle.xk_types.specs.declared.world.Value.{Value}
use Rattle.xk_types.specs.declared.world.Value.TheVariants as value
use Rattle.xk_types.specs.declared.world.Status.{Status}
use Rattle.xk_types.specs.declared.world.Status.TheVariants as status
use Rattle.xk_types.specs.declared.world.Standing.{Standing}
use Rattle.xk_types.specs.declared.world.Standing.TheVariants as standing
use Rattle.xk_types.specs.declared.world.Event.{Event}
use Rattle.xk_types.specs.declared.world.Event.TheVariants as event
use Rattle.xk_types.specs.declared.unit.ParamKind.{ParamKind}
use Rattle.xk_types.specs.declared.unit.ParamKind.TheVariants as param
use Rattle.xk_types.specs.Code.{UnitValue, ModuleValue, is_method, is_body, compares, Loop, loop_head}
use Rattle.xk_types.specs.World.{Frame, Finish, ActivityOf, Activity, Clock, WorldOf, World, is_ended, standing_of, frame_with, instruction_at}

-- Why a step is wrong: a clock operation by an activity that isn't registered on the clock; an unset slot is read; a
-- number is wanted and a clock stands there, or the reverse; there is no such instruction, unit, slot, clock or shared
-- number, no `for` where a `next` names one, no finish that could be closed, or the unit can't be called or started so: it is no method or
-- no body, or has another number of parameters than there are arguments.
pub data Cause : Type 0 where
  ClockUse : Cause
  Missing : Cause
  WrongKind : Cause
  OutOfRange : Cause

-- what a step comes to
pub data OutcomeOf (F : Type 0) : Type 0 where
  Blocked : OutcomeOf F
  Wrong : Cause → OutcomeOf F
  Stepped : WorldOf F → Event → OutcomeOf F

-- what a step of a module comes to
abbrev pub Outcome : Type 0
Outcome = OutcomeOf Frame

-- ---- standings

-- it has resumed, and the clock hasn't advanced since
abbrev pub is_signalled : Standing → Bool
is_signalled standing.Apart = false
is_signalled standing.Open = false
is_signalled standing.Signalled = true
is_signalled standing.Ahead = false

-- registered, and not signalled
abbrev pub is_pending : Standing → Bool
is_pending standing.Apart = false
is_pending standing.Open = true
is_pending standing.Signalled = false
is_pending standing.Ahead = true

-- after a resume
abbrev pub resumed : Standing → Standing
resumed standing.Apart = standing.Apart
resumed standing.Open = standing.Signalled
resumed standing.Signalled = standing.Signalled
resumed standing.Ahead = standing.Ahead

-- after a pass
abbrev pub passed : Standing → Standing
passed standing.Apart = standing.Apart
passed standing.Open = standing.Open
passed standing.Signalled = standing.Signalled
passed standing.Ahead = standing.Open

-- after the clock has advanced
abbrev pub advanced : Standing → Standing
advanced standing.Apart = standing.Apart
advanced standing.Open = standing.Open
advanced standing.Signalled = standing.Ahead
advanced standing.Ahead = standing.Ahead

-- after the registration has ended
abbrev pub dropped : Standing → Standing
dropped s = standing.Apart

-- ---- the end of a step: each clock that somebody is registered on, all of them signalled, advances

-- somebody is signalled on the clock, and nobody is open or ahead
abbrev pub is_ready : Clock → Bool
is_ready c = list_any is_signalled c.standings && not (list_any is_pending c.standings)

-- a clock at the end of step number `now`: it advances if it is ready
abbrev pub settled_clock : ℕ → Clock → Clock
settled_clock now c = if is_ready c then record { phase = c.phase + 1; last = now; standings = map advanced c.standings } else c

-- the world at the end of a step, which is counted
abbrev pub settled : {F : Type 0} → WorldOf F → WorldOf F
settled w = record w { clocks = map (settled_clock (w.steps + 1)) w.clocks; steps = w.steps + 1 }

-- ---- a step that changes one activity, and where it stands on clocks

-- a clock on which the standing of activity a changed
abbrev pub moved_on : ℕ → (Standing → Standing) → Clock → Clock
moved_on a change c = record c { standings = slice_set c.standings a (change (standing_of c a)) }

-- the clocks after the standings of activity a changed, that on clock number k by change k
abbrev pub moved : ℕ → (ℕ → Standing → Standing) → List Clock → List Clock
moved a change [] = []
moved a change (c ∷ cs) = moved_on a (change 0) c ∷ moved a (λ k. change (suc k)) cs

-- no standing changes
abbrev pub none : ℕ → Standing → Standing
none k s = s

-- that on clock c changes
abbrev pub only : ℕ → (Standing → Standing) → ℕ → Standing → Standing
only c change k s = if k == c then change s else s

-- all do
abbrev pub all : (Standing → Standing) → ℕ → Standing → Standing
all change k s = change s

-- activity a becomes act, its standings change, and the step ends
abbrev pub done : {F : Type 0} → WorldOf F → ℕ → ActivityOf F → (ℕ → Standing → Standing) → Event → OutcomeOf F
done w a act change e =
    Stepped (settled (record w { activities = slice_set w.activities a act; clocks = moved a change w.clocks })) e

-- a clock that activity a of n has made: a is registered on it, open
abbrev pub new_clock : ℕ → ℕ → Clock
new_clock n a = record { phase = 0; last = 0; standings = slice_set (replicate n standing.Apart) a standing.Open }

-- activity a becomes act and has made a clock, and the step ends
abbrev pub made : {F : Type 0} → WorldOf F → ℕ → ActivityOf F → OutcomeOf F
made w a act =
    Stepped (settled (record w {
      activities = slice_set w.activities a act;
      clocks = w.clocks ++ new_clock (length w.activities) a ∷ [];
    })) event.Made

-- ---- starting an activity

-- the finish that activity a opened last
abbrev pub innermost : {F : Type 0} → ℕ → ActivityOf F → Finish
innermost a act = record { owner = Some a; depth = act.opened }

-- the finish that governs what activity a starts: the innermost that it has open, else the one that governs it
abbrev pub governing : {F : Type 0} → ℕ → ActivityOf F → Finish
governing a act = if act.opened == 0 then act.governed else innermost a act

-- what activity a starts with these values: it begins with the `since` of its starter
abbrev pub child : ModuleValue → ℕ → Activity → ℕ → List Value → Activity
child m a act unit values = record {
  frame = frame_with m unit values;
  callers = [];
  status = status.Running;
  since = act.since;
  opened = 0;
  governed = governing a act;
}

-- the value is the name of clock c
abbrev pub names_clock : ℕ → Value → Bool
names_clock c value.Unset = false
names_clock c (value.Number n) = false
names_clock c (value.Clock k) = k == c

-- one of the values names clock c
abbrev pub is_given : List Value → ℕ → Bool
is_given values c = list_any (names_clock c) values

-- A clock when activity a has started the next one: a child stands where its starter does if it is given the clock.
abbrev pub joined_on : ℕ → Bool → Clock → Clock
joined_on a given c = record c { standings = c.standings ++ (if given then standing_of c a else standing.Apart) ∷ [] }

-- the clocks when activity a has started the next one, and given it those of these numbers
abbrev pub joined : ℕ → (ℕ → Bool) → List Clock → List Clock
joined a given [] = []
joined a given (c ∷ cs) = joined_on a (given 0) c ∷ joined a (λ k. given (suc k)) cs

-- ---- an activity after its step

-- on to the next instruction
abbrev pub onward : Activity → Activity
onward act = record act { frame = record act.frame { place = act.frame.place + 1 } }

-- on to this place
abbrev pub going : Activity → ℕ → Activity
going act t = record act { frame = record act.frame { place = t } }

-- with these slots
abbrev pub with_slots : Activity → List Value → Activity
with_slots act slots = record act { frame = record act.frame { slots = slots } }

-- at the first half of an `advance`
abbrev pub arrived : {F : Type 0} → ActivityOf F → ActivityOf F
arrived act = record act { status = status.Arrived }

-- over; its frames stay as they are
abbrev pub ended : {F : Type 0} → ActivityOf F → ActivityOf F
ended act = record act { status = status.Ended }

-- past an `advance`, in the step of this number
abbrev pub past : Activity → ℕ → Activity
past act now = record (onward act) { status = status.Running; since = now }

-- ---- operands

-- what a slot of the present frame holds
abbrev pub slot_at : Activity → ℕ → Option Value
slot_at act s = slice_get act.frame.slots s

-- a slot that has to hold a number
abbrev pub number_in : {F : Type 0} → Option Value → (ℤ → OutcomeOf F) → OutcomeOf F
number_in None go = Wrong OutOfRange
number_in (Some value.Unset) go = Wrong Missing
number_in (Some (value.Number n)) go = go n
number_in (Some (value.Clock c)) go = Wrong WrongKind

-- registered on a clock
abbrev pub is_registered : Standing → Bool
is_registered standing.Apart = false
is_registered standing.Open = true
is_registered standing.Signalled = true
is_registered standing.Ahead = true

-- a clock on which the activity has to be registered
abbrev pub registered_on : {F : Type 0} → Option Clock → ℕ → OutcomeOf F → OutcomeOf F
registered_on None a go = Wrong OutOfRange
registered_on (Some c) a go = if is_registered (standing_of c a) then go else Wrong ClockUse

-- a slot that has to name a clock on which the activity is registered
abbrev pub clock_in : {F : Type 0} → WorldOf F → ℕ → Option Value → (ℕ → OutcomeOf F) → OutcomeOf F
clock_in w a None go = Wrong OutOfRange
clock_in w a (Some value.Unset) go = Wrong Missing
clock_in w a (Some (value.Number n)) go = Wrong WrongKind
clock_in w a (Some (value.Clock c)) go = registered_on (slice_get w.clocks c) a (go c)

-- a slot that is written: the activity goes on with it
abbrev pub put_in : Option Value → Activity → ℕ → Value → (Activity → Outcome) → Outcome
put_in None act d v go = Wrong OutOfRange
put_in (Some old) act d v go = go (onward (with_slots act (slice_set act.frame.slots d v)))

-- slot d is written: the activity goes on with it
abbrev pub writing : Activity → ℕ → Value → (Activity → Outcome) → Outcome
writing act d v go = put_in (slot_at act d) act d v go

-- the values of arguments, each of what its parameter takes
abbrev pub arguments_in : World → ℕ → Activity → List ParamKind → List ℕ → (List Value → Outcome) → Outcome
arguments_in w a act [] [] go = go []
arguments_in w a act [] (x ∷ xs) go = Wrong OutOfRange
arguments_in w a act (p ∷ ps) [] go = Wrong OutOfRange
arguments_in w a act (param.Number ∷ ps) (x ∷ xs) go =
    number_in (slot_at act x) (λ n. arguments_in w a act ps xs (λ values. go (value.Number n ∷ values)))
arguments_in w a act (param.Clock ∷ ps) (x ∷ xs) go =
    clock_in w a (slot_at act x) (λ c. arguments_in w a act ps xs (λ values. go (value.Clock c ∷ values)))

-- activity a goes on, an activity that it starts takes the next number, and the step ends
abbrev pub spawned : ModuleValue → World → ℕ → Activity → ℕ → List Value → Outcome
spawned m w a act unit values =
    Stepped (settled (record w {
      activities = slice_set w.activities a (onward act) ++ child m a act unit values ∷ [];
      clocks = joined a (is_given values) w.clocks;
    })) event.Spawned

-- activity a starts one that runs this unit; only a body can be started
abbrev pub spawning : ModuleValue → World → ℕ → Activity → ℕ → List ℕ → Option UnitValue → Outcome
spawning m w a act unit args None = Wrong OutOfRange
spawning m w a act unit args (Some u) =
    if is_body u.kind then arguments_in w a act u.params args (spawned m w a act unit) else Wrong OutOfRange

-- ---- calling a method

-- the activity runs a unit with these values, and the frame that it ran waits at its `call`
abbrev pub called : ModuleValue → Activity → ℕ → List Value → Activity
called m act unit values = record act { frame = frame_with m unit values; callers = act.frame ∷ act.callers }

-- activity a calls this unit; only a method can be called
abbrev pub calling : ModuleValue → World → ℕ → Activity → ℕ → List ℕ → Option UnitValue → Outcome
calling m w a act unit args None = Wrong OutOfRange
calling m w a act unit args (Some u) =
    if is_method u.kind then arguments_in w a act u.params args (λ values. done w a (called m act unit values) none event.Local) else Wrong OutOfRange

-- back in the frame that waited, behind its `call`
abbrev pub back_in : Activity → Frame → List Frame → Activity
back_in act f fs = record act { frame = record f { place = f.place + 1 }; callers = fs }

-- a `ret`, by the frames that wait: back to the last of them, or the end of the activity
abbrev pub returning : World → ℕ → Activity → List Frame → Outcome
returning w a act [] = done w a (ended act) (all dropped) event.Ended
returning w a act (f ∷ fs) = done w a (back_in act f fs) none event.Local

-- ---- finishes

-- both finishes have one owner, or none
abbrev pub same_owner : Option ℕ → Option ℕ → Bool
same_owner None None = true
same_owner None (Some b) = false
same_owner (Some a) None = false
same_owner (Some a) (Some b) = a == b

-- both are one finish
abbrev pub same_finish : Finish → Finish → Bool
same_finish f g = same_owner f.owner g.owner && (f.depth == g.depth)

-- Activity b is under the finish: the finish governs it, or what governs it has an owner that is under the finish. No more
-- activities are looked at than this, b among them.
unfoldable pub under_within : {F : Type 0} → List (ActivityOf F) → Finish → ℕ → ℕ → Bool
under_within acts f zero b = false
under_within acts f (suc n) b =
    option_map_or (λ act. same_finish act.governed f || option_map_or (under_within acts f n) act.governed.owner false) (slice_get acts b) false

-- The owner of a finish has a smaller number than those whom it governs, so that looking at as many as there are is enough.
abbrev pub is_under : {F : Type 0} → List (ActivityOf F) → Finish → ℕ → Bool
is_under acts f b = under_within acts f (length acts) b

-- one of these activities, the first of them number b, is under the finish and hasn't ended
abbrev pub awaits_from : {F : Type 0} → List (ActivityOf F) → Finish → ℕ → List (ActivityOf F) → Bool
awaits_from acts f b [] = false
awaits_from acts f b (x ∷ xs) = (is_under acts f b && not (is_ended x.status)) || awaits_from acts f (suc b) xs

-- an activity under the finish hasn't ended
abbrev pub awaits : {F : Type 0} → List (ActivityOf F) → Finish → Bool
awaits acts f = awaits_from acts f 0 acts

-- a `finish`: one more is open
abbrev pub entered : Activity → Activity
entered act = record (onward act) { opened = act.opened + 1 }

-- an `endfinish`: this many are still open
abbrev pub left : Activity → ℕ → Activity
left act n = record (onward act) { opened = n }

-- an `endfinish`, by how many finishes are open: it waits for all under the innermost, and closes that one
abbrev pub closing : World → ℕ → Activity → ℕ → Outcome
closing w a act zero = Wrong OutOfRange
closing w a act (suc n) = if awaits w.activities (innermost a act) then Blocked else done w a (left act n) none event.Closed

-- ---- numbers

-- slot d becomes a number that comes of two others
abbrev pub computing : World → ℕ → Activity → (ℤ → ℤ → ℤ) → ℕ → ℕ → ℕ → Outcome
computing w a act f d x y =
    number_in (slot_at act x) (λ p. number_in (slot_at act y) (λ q.
    writing act d (value.Number (f p q)) (λ next. done w a next none event.Local)))

-- the activity goes on, or to place t, by how two numbers compare
abbrev pub branching : World → ℕ → Activity → Comparison → ℕ → ℕ → ℕ → Outcome
branching w a act op x y t =
    number_in (slot_at act x) (λ p. number_in (slot_at act y) (λ q.
    done w a (if compares op p q then onward act else going act t) none event.Local))

-- a bound, and no further than the number in the slot that is named, if one is
abbrev pub no_further : Activity → Option ℕ → ℤ → (ℤ → Outcome) → Outcome
no_further act None hi go = go hi
no_further act (Some x) hi go = number_in (slot_at act x) (λ n. go (int_min n hi))

-- a loop that goes up to `top` has a turn, its first, or it is passed over, to place t
abbrev pub beginning : World → ℕ → Activity → ℕ → ℤ → ℕ → ℤ → Outcome
beginning w a act k lo t top =
    if int_le lo top then writing act k (value.Number lo) (λ next. done w a next none event.Local) else done w a (going act t) none event.Local

-- the loop's slot has its next number, and the turn begins behind the head at place b
abbrev pub again : Activity → ℕ → ℕ → ℤ → Activity
again act b k n = going (with_slots act (slice_set act.frame.slots k (value.Number (n +ℤ pos 1)))) (b + 1)

-- a turn ends of the loop whose head stands at place b
abbrev pub turning : World → ℕ → Activity → ℕ → Option Loop → Outcome
turning w a act b None = Wrong OutOfRange
turning w a act b (Some l) =
    number_in (slot_at act l.slot) (λ n. no_further act l.limit l.hi (λ top.
    done w a (if int_lt n top then again act b l.slot n else onward act) none event.Local))

-- ---- shared numbers

-- a shared number that has to be there
abbrev pub cell_in : {F : Type 0} → Option ℤ → (ℤ → OutcomeOf F) → OutcomeOf F
cell_in None go = Wrong OutOfRange
cell_in (Some n) go = go n

-- shared number s becomes n, and the activity goes on
abbrev pub stored : World → ℕ → Activity → ℕ → ℤ → Event → Outcome
stored w a act s n e = done (record w { cells = slice_set w.cells s n }) a (onward act) none e

-- ---- a step

-- what a running activity does at an instruction
abbrev pub carried_out : ModuleValue → World → ℕ → Activity → Instr → Outcome
carried_out m w a act (instr.Lit d n) = writing act d (value.Number n) (λ next. done w a next none event.Local)
carried_out m w a act (instr.Copy d x) = number_in (slot_at act x) (λ n. writing act d (value.Number n) (λ next. done w a next none event.Local))
carried_out m w a act (instr.Add d x y) = computing w a act (int_wrapping_add w64) d x y
carried_out m w a act (instr.Sub d x y) = computing w a act (int_wrapping_sub w64) d x y
carried_out m w a act (instr.Mul d x y) = computing w a act (int_wrapping_mul w64) d x y
carried_out m w a act (instr.Unless op x y t) = branching w a act op x y t
carried_out m w a act (instr.Jump t) = done w a (going act t) none event.Local
carried_out m w a act (instr.For k lo hi e) = writing act k (value.Number lo) (λ next. done w a next none event.Local)
carried_out m w a act (instr.ForTo k lo x hi e) = no_further act (Some x) hi (beginning w a act k lo (e + 1))
carried_out m w a act (instr.Next b) = turning w a act b (option_and_then (loop_head b) (instruction_at m (record act.frame { place = b })))
carried_out m w a act (instr.Finish e) = done w a (entered act) none event.Opened
carried_out m w a act (instr.EndFinish b) = closing w a act act.opened
carried_out m w a act (instr.Get d s) = cell_in (slice_get w.cells s) (λ n. writing act d (value.Number n) (λ next. done w a next none event.Got))
carried_out m w a act (instr.Put s x) = number_in (slot_at act x) (λ n. cell_in (slice_get w.cells s) (λ old. stored w a act s n event.Put))
carried_out m w a act (instr.AddTo s x) =
    number_in (slot_at act x) (λ n. cell_in (slice_get w.cells s) (λ old. stored w a act s (int_wrapping_add w64 old n) event.Added))
carried_out m w a act (instr.Print x) = number_in (slot_at act x) (λ n. done w a (onward act) none (event.Printed n))
carried_out m w a act (instr.Make k) = writing act k (value.Clock (length w.clocks)) (λ next. made w a next)
carried_out m w a act (instr.Resume k) = clock_in w a (slot_at act k) (λ c. done w a (onward act) (only c resumed) event.Resumed)
carried_out m w a act (instr.Drop k) = clock_in w a (slot_at act k) (λ c. done w a (onward act) (only c dropped) event.Dropped)
carried_out m w a act instr.Advance = done w a (arrived act) (all resumed) event.Arrived
carried_out m w a act (instr.Call t args) = calling m w a act t args (slice_get m.units t)
carried_out m w a act (instr.Spawn t args) = spawning m w a act t args (slice_get m.units t)
carried_out m w a act instr.Ret = returning w a act act.callers

-- what a running activity does, by the instruction that it stands at
abbrev pub run_at : ModuleValue → World → ℕ → Activity → Option Instr → Outcome
run_at m w a act None = Wrong OutOfRange
run_at m w a act (Some i) = carried_out m w a act i

-- an activity waits at an `advance` as long as it is signalled on a clock
abbrev pub waits : {F : Type 0} → WorldOf F → ℕ → Bool
waits w a = list_any (λ c. is_signalled (standing_of c a)) w.clocks

-- the second half of an `advance`
abbrev pub passing : World → ℕ → Activity → Outcome
passing w a act = if waits w a then Blocked else done w a (past act (w.steps + 1)) (all passed) event.Passed

-- a step of an activity, by its status
abbrev pub step_by : ModuleValue → World → ℕ → Activity → Status → Outcome
step_by m w a act status.Running = run_at m w a act (instruction_at m act.frame)
step_by m w a act status.Arrived = passing w a act
step_by m w a act status.Ended = Blocked

-- a step of the activity that has the number, if there is one
abbrev pub step_of : ModuleValue → World → ℕ → Option Activity → Outcome
step_of m w a None = Blocked
step_of m w a (Some act) = step_by m w a act act.status

-- one step of activity a
abbrev pub step : ModuleValue → World → ℕ → Outcome
step m w a = step_of m w a (slice_get w.activities a)
