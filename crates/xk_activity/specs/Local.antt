-- What an activity does that nobody else can see, told of its frames alone: steps whose event is `Local`, one after the other. The
-- rules are those of a step of the world (`Rattle.xk_types.specs.Step`); `proofs/StepAgreementLemmas.antt` shows that the two agree.
use Rattle.std.specs.Prelude.{ℕ, zero, suc, ℤ, pos, ◌+ℤ◌, ◌+◌, int_lt, int_le, Bool, true, false, List, [], ◌∷◌, slice_get, slice_set, Option, Some, None, if◌then◌else◌}
use Rattle.std.specs.Option.{option_map_or, option_and_then}
use Rattle.std.specs.Int.{w64, int_min, int_wrapping_add, int_wrapping_sub, int_wrapping_mul}
use Rattle.xk_types.specs.declared.instr.Instr.{Instr}
use Rattle.xk_types.specs.declared.instr.Instr.TheVariants as instr
use Rattle.xk_types.specs.declared.world.Value.{Value}
use Rattle.xk_types.specs.declared.world.Value.TheVariants as value
use Rattle.xk_types.specs.declared.unit.ParamKind.{ParamKind}
use Rattle.xk_types.specs.declared.unit.ParamKind.TheVariants as param
use Rattle.xk_types.specs.Code.{UnitValue, ModuleValue, Loop, loop_head, is_method, compares}
use Rattle.xk_types.specs.World.{Frame, frame_with, instruction_at}

-- What a step comes to that may change an X.
pub data OutcomeOf (X : Type 0) : Type 0 where
  -- the step concerns more than that, and nothing changes
  Beyond : OutcomeOf X
  -- there is no such instruction, unit or slot, or a slot doesn't hold what is wanted
  Wrong : OutcomeOf X
  Stepped : X → OutcomeOf X

-- the next step after what the last one came to
abbrev pub then_step : {X : Type 0} → (X → OutcomeOf X) → OutcomeOf X → OutcomeOf X
then_step step Beyond = Beyond
then_step step Wrong = Wrong
then_step step (Stepped x) = step x

-- n steps
abbrev pub ran : {X : Type 0} → (X → OutcomeOf X) → X → ℕ → OutcomeOf X
ran step x zero = Stepped x
ran step x (suc n) = then_step step (ran step x n)

-- it isn't wrong
abbrev pub IsRight : {X : Type 0} → OutcomeOf X → Type 0
IsRight Beyond = Unit {0}
IsRight Wrong = ⊥
IsRight (Stepped x) = Unit {0}

-- no number of steps is wrong
abbrev pub IsSafe : {X : Type 0} → (X → OutcomeOf X) → X → Type 0
IsSafe step x = (n : ℕ) → IsRight (ran step x n)

-- ---- instructions on one frame

-- where a frame of a unit stands: its place and its slots
pub record Spot : Type 0 where
  pub place : ℕ
  pub slots : List Value

-- what an instruction comes to on one frame
abbrev pub Turn : Type 0
Turn = OutcomeOf Spot

abbrev pub spot_at : ℕ → List Value → Spot
spot_at place slots = record { place = place; slots = slots }

-- on to the next instruction
abbrev pub onward : Spot → Spot
onward f = record f { place = f.place + 1 }

-- a slot that has to hold a number
abbrev pub number_in : {X : Type 0} → Option Value → (ℤ → OutcomeOf X) → OutcomeOf X
number_in None go = Wrong
number_in (Some value.Unset) go = Wrong
number_in (Some (value.Number n)) go = go n
number_in (Some (value.Clock c)) go = Wrong

abbrev pub number_at : Spot → ℕ → (ℤ → Turn) → Turn
number_at f s go = number_in (slice_get f.slots s) go

-- a slot that is written
abbrev pub put_in : Option Value → Spot → ℕ → Value → Turn
put_in None f d v = Wrong
put_in (Some old) f d v = Stepped (onward (record f { slots = slice_set f.slots d v }))

-- slot d becomes number n, and the frame goes on
abbrev pub writing : Spot → ℕ → ℤ → Turn
writing f d n = put_in (slice_get f.slots d) f d (value.Number n)

-- slot d becomes a number that comes of two others
abbrev pub computing : (ℤ → ℤ → ℤ) → Spot → ℕ → ℕ → ℕ → Turn
computing op f d x y = number_at f x (λ p. number_at f y (λ q. writing f d (op p q)))

-- a bound, and no further than the number in the slot that is named, if one is
abbrev pub no_further : Spot → Option ℕ → ℤ → (ℤ → Turn) → Turn
no_further f None hi go = go hi
no_further f (Some x) hi go = number_at f x (λ n. go (int_min n hi))

-- a loop that goes up to `top` has its first turn, or it is passed over, to place t
abbrev pub beginning : Spot → ℕ → ℤ → ℕ → ℤ → Turn
beginning f k lo t top = if int_le lo top then writing f k lo else Stepped (record f { place = t })

-- a loop with a limit in slot x that goes up to hi begins, or is passed over, to the place behind e
abbrev pub limited : Spot → ℕ → ℤ → ℕ → ℤ → ℕ → Turn
limited f k lo x hi e = no_further f (Some x) hi (beginning f k lo (e + 1))

-- the loop's slot k has its next number, and the turn begins behind the head at place b; or the frame goes on
abbrev pub turned : Spot → ℕ → ℕ → ℤ → ℤ → Turn
turned f b k n top = if int_lt n top then Stepped (record { place = b + 1; slots = slice_set f.slots k (value.Number (n +ℤ pos 1)) }) else Stepped (onward f)

-- a turn of the loop whose head stands at place b ends
abbrev pub turning : Spot → ℕ → Option Loop → Turn
turning f b None = Wrong
turning f b (Some l) = number_at f l.slot (λ n. no_further f l.limit l.hi (turned f b l.slot n))

-- an instruction of this code
abbrev pub carried : List Instr → Spot → Instr → Turn
carried code f (instr.Lit d n) = writing f d n
carried code f (instr.Copy d x) = number_at f x (λ n. writing f d n)
carried code f (instr.Add d x y) = computing (int_wrapping_add w64) f d x y
carried code f (instr.Sub d x y) = computing (int_wrapping_sub w64) f d x y
carried code f (instr.Mul d x y) = computing (int_wrapping_mul w64) f d x y
carried code f (instr.Unless op x y t) = number_at f x (λ p. number_at f y (λ q. Stepped (if compares op p q then onward f else record f { place = t })))
carried code f (instr.Jump t) = Stepped (record f { place = t })
carried code f (instr.For k lo hi e) = writing f k lo
carried code f (instr.ForTo k lo x hi e) = limited f k lo x hi e
carried code f (instr.Next b) = turning f b (option_and_then (loop_head b) (slice_get code b))
carried code f (instr.Finish e) = Beyond
carried code f (instr.EndFinish b) = Beyond
carried code f (instr.Get d s) = Beyond
carried code f (instr.Put s x) = Beyond
carried code f (instr.AddTo s x) = Beyond
carried code f (instr.Print x) = Beyond
carried code f (instr.Make k) = Beyond
carried code f (instr.Resume k) = Beyond
carried code f (instr.Drop k) = Beyond
carried code f instr.Advance = Beyond
carried code f (instr.Call t args) = Beyond
carried code f (instr.Spawn t args) = Beyond
carried code f instr.Ret = Beyond

abbrev pub carried_at : List Instr → Spot → Option Instr → Turn
carried_at code f None = Wrong
carried_at code f (Some i) = carried code f i

-- the instruction that the frame stands at
abbrev pub turn : List Instr → Spot → Turn
turn code f = carried_at code f (slice_get code f.place)

-- ---- the frames of one activity

-- the module that they run, the present frame, and those that wait for it to return, the nearest first
pub record FramesValue : Type 0 where
  pub module_run : ModuleValue
  pub frame : Frame
  pub callers : List Frame

-- what a step of an activity comes to on its frames
abbrev pub Outcome : Type 0
Outcome = OutcomeOf FramesValue

-- where the present frame stands
abbrev pub spot_of : Frame → Spot
spot_of f = record { place = f.place; slots = f.slots }

-- the frame of this unit that stands so
abbrev pub frame_on : ℕ → Spot → Frame
frame_on unit s = record { unit = unit; place = s.place; slots = s.slots }

-- the present frame after its instruction
abbrev pub in_frame : FramesValue → Turn → Outcome
in_frame fs Beyond = Beyond
in_frame fs Wrong = Wrong
in_frame fs (Stepped s) = Stepped (record fs { frame = frame_on fs.frame.unit s })

-- a slot that has to name a clock
abbrev pub clock_in : {X : Type 0} → Option Value → (ℕ → OutcomeOf X) → OutcomeOf X
clock_in None go = Wrong
clock_in (Some value.Unset) go = Wrong
clock_in (Some (value.Number n)) go = Wrong
clock_in (Some (value.Clock c)) go = go c

-- the values of arguments, each of what its parameter takes
abbrev pub arguments_in : {X : Type 0} → List Value → List ParamKind → List ℕ → (List Value → OutcomeOf X) → OutcomeOf X
arguments_in slots [] [] go = go []
arguments_in slots [] (x ∷ xs) go = Wrong
arguments_in slots (p ∷ ps) [] go = Wrong
arguments_in slots (param.Number ∷ ps) (x ∷ xs) go =
    number_in (slice_get slots x) (λ n. arguments_in slots ps xs (λ values. go (value.Number n ∷ values)))
arguments_in slots (param.Clock ∷ ps) (x ∷ xs) go =
    clock_in (slice_get slots x) (λ c. arguments_in slots ps xs (λ values. go (value.Clock c ∷ values)))

-- the unit is run with these values, and the present frame waits at its `call`
abbrev pub called : FramesValue → ℕ → List Value → FramesValue
called fs unit values = record fs { frame = frame_with fs.module_run unit values; callers = fs.frame ∷ fs.callers }

-- a call of this unit; only a method can be called
abbrev pub calling : FramesValue → ℕ → List ℕ → Option UnitValue → Outcome
calling fs unit args None = Wrong
calling fs unit args (Some u) =
    if is_method u.kind then arguments_in fs.frame.slots u.params args (λ values. Stepped (called fs unit values)) else Wrong

-- a `ret`, by the frames that wait: back behind the `call` of the nearest; the end of an activity can be seen
abbrev pub returning : FramesValue → List Frame → Outcome
returning fs [] = Beyond
returning fs (g ∷ gs) = Stepped (record fs { frame = record g { place = g.place + 1 }; callers = gs })

-- the code of a unit
abbrev pub code_of : ModuleValue → ℕ → List Instr
code_of m unit = option_map_or (λ u. u.code) (slice_get m.units unit) []

-- an instruction of the present frame
abbrev pub carried_on : FramesValue → Instr → Outcome
carried_on fs (instr.Call t args) = calling fs t args (slice_get fs.module_run.units t)
carried_on fs instr.Ret = returning fs fs.callers
carried_on fs i = in_frame fs (carried (code_of fs.module_run fs.frame.unit) (spot_of fs.frame) i)

abbrev pub local_at : FramesValue → Option Instr → Outcome
local_at fs None = Wrong
local_at fs (Some i) = carried_on fs i

-- one step, if nobody else can see it
abbrev pub local : FramesValue → Outcome
local fs = local_at fs (instruction_at fs.module_run fs.frame)

-- the frames of an activity that begins with this unit: its first slots are given these values
abbrev pub begun : ModuleValue → ℕ → List Value → FramesValue
begun m unit values = record { module_run = m; frame = frame_with m unit values; callers = [] }

-- the step was taken
abbrev pub is_stepped : {X : Type 0} → OutcomeOf X → Bool
is_stepped Beyond = false
is_stepped Wrong = false
is_stepped (Stepped x) = true
