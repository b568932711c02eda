-- How the frames of an activity lie on one stack of words, and the room that they keep. This project's own.
use Rattle.std.specs.Prelude.{Bool, true, false, ℕ, ℤ, ◌≡◌, ◌+◌, ◌<◌, ◌≤◌, List, [], ◌∷◌, length, max, take, drop, map, All, Some, slice_get, slice_index_or, slice_set}
use Rattle.xk_types.specs.declared.world.Value.{Value}
use Rattle.xk_types.specs.declared.world.Value.TheVariants as value
use Rattle.xk_types.specs.declared.instr.Instr.TheVariants as instr
use Rattle.xk_types.specs.Code.{UnitValue, ModuleValue, IsWithinLimits}
use Rattle.xk_types.specs.Shape.{HasShape}
use Rattle.xk_types.specs.World.{Frame, slots_of, instruction_at}
use Rattle.xk_types.specs.Bound.{stack_of, frames_of}
use Rattle.xk_activity.specs.declared.caller.Caller.{Caller}
use Rattle.xk_activity.specs.declared.frames.Next.{Next}
use Rattle.xk_activity.specs.declared.frames.Next.TheVariants as next
use Rattle.xk_activity.specs.declared.marks.Marks.{Marks}
use Rattle.xk_activity.specs.Slots.{values_of}
use Rattle.xk_activity.specs.Local.{FramesValue, Outcome, Beyond, Stepped}

-- the frames that wait, the nearest first, on a stack whose part up to top is theirs
abbrev pub waiting : List ℤ → ℕ → List Caller → List Frame
waiting stack top [] = []
waiting stack top (c ∷ cs) = record { unit = c.unit; place = c.place; slots = values_of c.marks (drop c.base (take top stack)) } ∷ waiting stack c.base cs

-- the frames on a stack, of which the present one begins at base
abbrev pub frames_on : ModuleValue → ℕ → ℕ → Marks → ℕ → List ℤ → List Caller → FramesValue
frames_on m unit place marks base stack cs = record {
  module_run = m;
  frame = record { unit = unit; place = place; slots = values_of marks (drop base stack) };
  callers = waiting stack base cs;
}

-- There is room for a frame of this unit that begins at base above these others, and for all that it may call.
pub record HasRoom (m : ModuleValue) (slots frames base unit : ℕ) (below : List Caller) : Type 0 where
  pub slots_fit : base + stack_of m unit ≤ slots
  pub frames_fit : length below + frames_of m unit ≤ frames + 1

-- each frame that waits ends where the one above it begins, and the last begins with the stack
abbrev pub AreStacked : ModuleValue → ℕ → ℕ → ℕ → List Caller → Type 0
AreStacked m slots frames top [] = top ≡ 0
AreStacked m slots frames top (c ∷ cs) =
    (c.base + slots_of m c.unit ≡ top) × HasRoom m slots frames c.base c.unit cs × AreStacked m slots frames c.base cs

-- each frame that waits has at most 64 slots, and ends where the one above it begins, on a stack of this length
abbrev pub AreBelow : ℕ → ℕ → List Caller → Type 0
AreBelow long top [] = top ≤ long
AreBelow long top (c ∷ cs) = (c.base ≤ top) × (top ≤ long) × (top ≤ c.base + 64) × AreBelow long c.base cs

-- the unit of the undermost frame, from which all others were called
abbrev pub undermost : ℕ → List Caller → ℕ
undermost unit [] = unit
undermost unit (c ∷ cs) = undermost c.unit cs

-- The present frame is the uppermost, and there is room for all that it and those that wait may call: as much as the undermost one needs,
-- and no less than two slots.
pub record IsStacked (m : ModuleValue) (unit base : ℕ) (below : List Caller) (long slots frames : ℕ) : Type 0 where
  pub limits : IsWithinLimits m
  pub shape : HasShape m
  pub top : long ≡ base + slots_of m unit
  pub room : HasRoom m slots frames base unit below
  pub stacked : AreStacked m slots frames base below
  pub whole : slots ≡ max 2 (stack_of m (undermost unit below))
  pub all : frames + 1 ≡ frames_of m (undermost unit below)

-- what a slot holds, and nothing where there is no such slot
abbrev pub value_at : List Value → ℕ → Value
value_at slots s = slice_index_or slots s value.Unset

-- the values of these slots
abbrev pub values_at : List Value → List ℕ → List Value
values_at slots args = map (value_at slots) args

-- the present frame stands at a call of this unit, and has what it hands over
pub record CanCall (fs : FramesValue) (t : ℕ) (args : List ℕ) : Type 0 where
  pub stands : instruction_at fs.module_run fs.frame ≡ Some (instr.Call t args)
  pub unit : UnitValue
  pub found : slice_get fs.module_run.units t ≡ Some unit
  pub fits : length args ≤ unit.slots
  pub slots : All (λ s. s < length fs.frame.slots) args

-- with another place
abbrev pub placed : FramesValue → ℕ → FramesValue
placed fs p = record fs { frame = record fs.frame { place = p } }

-- the nearest of these frames that wait in place of the present one, and whether there is one
abbrev pub outer : FramesValue → List Frame → Bool × FramesValue
outer fs [] = (false, fs)
outer fs (g ∷ gs) = (true, record fs { frame = g; callers = gs })

-- with another value in slot s of the present frame
abbrev pub with_slot : FramesValue → ℕ → Value → FramesValue
with_slot fs s v = record fs { frame = record fs.frame { slots = slice_set fs.frame.slots s v } }

-- what a call of `local` does, by what the definition's step comes to
abbrev pub Does : Outcome → FramesValue → Next → FramesValue → Type 0
Does step old next.Stepped new = step ≡ Stepped new
Does step old next.Visible new = (step ≡ Beyond) × (new ≡ old)
