-- What an instruction does to its own activity, and what a step owes to the machine's number types.
use Rattle.std.specs.Prelude.{◌≡◌, ℕ, ◌+◌, ◌<◌, ◌^◌, Bool, true, false, [], Option, Some, None, length, slice_get, slice_index_or, All}
use Rattle.xk_types.specs.declared.instr.Instr.{Instr}
use Rattle.xk_types.specs.declared.instr.Instr.TheVariants as instr
use Rattle.xk_types.specs.declared.world.Value.{Value}
use Rattle.xk_types.specs.declared.world.Value.TheVariants as value
use Rattle.xk_types.specs.declared.world.Event.{Event}
use Rattle.xk_types.specs.Code.{ModuleValue}
use Rattle.xk_types.specs.World.{Activity, World}
use Rattle.xk_types.specs.Step.{Outcome, Blocked, Stepped, carried_out, passing}
use Rattle.xk_activity.specs.Interpreter.{is_beyond}
use Rattle.xk_activity.specs.Activities.{Stands, act_at}

-- what a slot holds, and nothing where there is no such slot
abbrev pub value_at : Activity → ℕ → Value
value_at act s = slice_index_or act.frame.slots s value.Unset

-- the instruction starts an activity, for which memory is wanted
abbrev pub starts : Instr → Bool
starts (instr.Spawn t args) = true
starts _ = false

-- others can see it: it concerns more than the frames of its activity, of which a call makes one
abbrev pub is_visible : Instr → Bool
is_visible (instr.Call t args) = false
is_visible i = is_beyond i

-- it opens or closes a finish, or starts an activity
abbrev pub concerns_finishes : Instr → Bool
concerns_finishes (instr.Finish e) = true
concerns_finishes (instr.EndFinish b) = true
concerns_finishes (instr.Spawn t args) = true
concerns_finishes _ = false

abbrev pub carried_by : ModuleValue → World → ℕ → Instr → Option Activity → Outcome
carried_by m w a i None = Blocked
carried_by m w a i (Some act) = carried_out m w a act i

-- what activity a does at an instruction
abbrev pub carried : ModuleValue → World → ℕ → Instr → Outcome
carried m w a i = carried_by m w a i (slice_get w.activities a)

-- that leads to world v, and is seen so
abbrev pub CarriesOut : ModuleValue → World → ℕ → Instr → World → Event → Type 0
CarriesOut m w a i v e = carried m w a i ≡ Stepped v e

abbrev pub passing_by : World → ℕ → Option Activity → Outcome
passing_by w a None = Blocked
passing_by w a (Some act) = passing w a act

-- what activity a does when it waits at an `advance`
abbrev pub passed_on : World → ℕ → Outcome
passed_on w a = passing_by w a (slice_get w.activities a)

-- One more step, phase and clock fits its type, the activity stands at an instruction, and each clock knows where each activity stands.
pub record IsRoomy (m : ModuleValue) (w : World) (a : ℕ) : Type 0 where
  pub steps : w.steps + 1 < 2 ^ 64
  pub phases : All (λ c. c.phase + 1 < 2 ^ 64) w.clocks
  pub clocks : length w.clocks + 1 < 2 ^ 32
  pub stands : Stands m (act_at w.activities a)
  pub standings : All (λ c. length c.standings ≡ length w.activities) w.clocks

-- no frame waits for the present one of activity a to return
abbrev pub IsLast : World → ℕ → Type 0
IsLast w a = (act : Activity) → slice_get w.activities a ≡ Some act → act.callers ≡ []
