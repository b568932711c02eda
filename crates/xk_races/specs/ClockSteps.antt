-- Which clocks have to be asked about at a step, by the instruction at which it is taken: in the order of a run a step has to do with
-- clocks only where it resumes, leaves or passes some.
use Rattle.std.specs.Prelude.{◌≡◌, ℕ, Bool, true, false, List, Option, Some, option_and_then, slice_get}
use Rattle.std.specs.Option.{option_map_or}
use Rattle.xk_types.specs.declared.instr.Instr.{Instr}
use Rattle.xk_types.specs.declared.instr.Instr.TheVariants as instr
use Rattle.xk_types.specs.declared.world.Event.{Event}
use Rattle.xk_types.specs.Code.{ModuleValue}
use Rattle.xk_types.specs.World.{World}
use Rattle.xk_types.specs.Step.{Stepped, step}
use Rattle.xk_core.specs.Core.{next_instruction}
use Rattle.xk_show_events.specs.declared.steps.RunStep.{RunStep}
use Rattle.xk_races.specs.Deeds.{at_clocks, awaiting, resumed_by}

-- it leaves clocks
abbrev pub leaves_clocks : Instr → Bool
leaves_clocks (instr.Drop x) = true
leaves_clocks instr.Ret = true
leaves_clocks _ = false

-- it resumes or leaves clocks
abbrev pub concerns_clocks : Instr → Bool
concerns_clocks (instr.Resume x) = true
concerns_clocks instr.Advance = true
concerns_clocks (instr.Drop x) = true
concerns_clocks instr.Ret = true
concerns_clocks _ = false

-- so it may be of the next step, where that isn't taken at an instruction, too
abbrev pub may_be : (Instr → Bool) → Option Instr → Bool
may_be test next = option_map_or test next true

-- the instruction at a place of a unit
abbrev pub instr_in : ModuleValue → ℕ → ℕ → Option Instr
instr_in m unit place = option_and_then (λ u. slice_get u.code place) (slice_get m.units unit)

-- if there is one, activity a runs, and carries it out next
abbrev pub IsNextIfAny : ModuleValue → World → ℕ → Option Instr → Type 0
IsNextIfAny m w a next = (i : Instr) → next ≡ Some i → next_instruction m w a ≡ Some i

-- the step of activity a does at clocks what it does if these clocks await the activity
abbrev pub AreEnoughAwaiting : ModuleValue → World → ℕ → List ℕ → Type 0
AreEnoughAwaiting m w a clocks = (v : World) (s : RunStep) (resumed : List ℕ) (e : Event) → step m w a ≡ Stepped v e
    → at_clocks v s resumed clocks e ≡ at_clocks v s resumed (awaiting w a) e

-- and if it has resumed these
abbrev pub AreEnoughResumed : ModuleValue → World → ℕ → List ℕ → Type 0
AreEnoughResumed m w a resumed = (v : World) (s : RunStep) (clocks : List ℕ) (e : Event) → step m w a ≡ Stepped v e
    → at_clocks v s resumed clocks e ≡ at_clocks v s (resumed_by w a) clocks e
