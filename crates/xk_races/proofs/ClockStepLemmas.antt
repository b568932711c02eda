-- A step at an instruction that has nothing to do with clocks does nothing at them, whatever clocks are asked about.
use Rattle.std.proofs.Common.{◌≡◌, ◌∙◌, ℕ, true, false, List, Option, Some, None, refl, sym}
use Rattle.std.specs.Prelude.{slice_get}
use Rattle.std.proofs.lemmas.Bool.{false≢true, true≢false}
use Rattle.xk_types.specs.declared.instr.Instr.{Instr}
use Rattle.xk_types.specs.declared.instr.Instr.TheVariants as instr
use Rattle.xk_types.specs.declared.world.Event.{Event}
use Rattle.xk_types.specs.declared.world.Event.TheVariants as event
use Rattle.xk_types.specs.declared.world.Status.{Status}
use Rattle.xk_types.specs.declared.world.Status.TheVariants as status
use Rattle.xk_types.specs.Code.{ModuleValue}
use Rattle.xk_types.specs.World.{Activity, World}
use Rattle.xk_types.specs.Step.{Stepped, step}
use Rattle.xk_law_traces.proofs.InstructionEventLemmas.{shows, shown_at}
use Rattle.xk_core.specs.Core.{instruction_by, instruction_of, next_instruction}
use Rattle.xk_show_events.specs.declared.steps.RunStep.{RunStep}
use Rattle.xk_races.specs.Deeds.{at_clocks, awaiting, resumed_by}
use Rattle.xk_races.specs.ClockSteps.{AreEnoughAwaiting, AreEnoughResumed, IsNextIfAny, concerns_clocks, leaves_clocks, may_be}

-- ---- the event of a step, by its instruction

next_shows : (m : ModuleValue) (w v : World) (a : ℕ) (i : Instr) (e : Event) → next_instruction m w a ≡ Some i → step m w a ≡ Stepped v e
    → shows e i ≡ true
next_shows m w v a i e next takes = of (slice_get w.activities a) refl next
  where
    of : (o : Option Activity) → slice_get w.activities a ≡ o → instruction_of m o ≡ Some i → shows e i ≡ true
    of None found h = absurd (cc)
    of (Some act) found h = by act.status refl h
      where
        by : (st : Status) → act.status ≡ st → instruction_by m act st ≡ Some i → shows e i ≡ true
        by status.Running runs g = shown_at m w v a act e found takes runs i g
        by status.Arrived is g = absurd (cc)
        by status.Ended is g = absurd (cc)

resumed_at : (i : Instr) → shows event.Resumed i ≡ true → concerns_clocks i ≡ true
resumed_at (instr.Resume x) h = refl
resumed_at _ h = absurd (false≢true h)

dropped_at : (i : Instr) → shows event.Dropped i ≡ true → leaves_clocks i ≡ true
dropped_at (instr.Drop x) h = refl
dropped_at _ h = absurd (false≢true h)

arrived_at : (i : Instr) → shows event.Arrived i ≡ true → concerns_clocks i ≡ true
arrived_at instr.Advance h = refl
arrived_at _ h = absurd (false≢true h)

ended_at : (i : Instr) → shows event.Ended i ≡ true → leaves_clocks i ≡ true
ended_at instr.Ret h = refl
ended_at _ h = absurd (false≢true h)

-- what leaves clocks has to do with them
left_so : (i : Instr) → leaves_clocks i ≡ true → concerns_clocks i ≡ true
left_so (instr.Drop x) h = refl
left_so instr.Ret h = refl
left_so _ h = absurd (false≢true h)

-- ---- at an instruction that leaves none, or has to do with none

same_unless_left : (i : Instr) → leaves_clocks i ≡ false → (v : World) (s : RunStep) (r q clocks : List ℕ) (e : Event) → shows e i ≡ true
    → at_clocks v s r clocks e ≡ at_clocks v s q clocks e
same_unless_left i none v s r q clocks event.Local h = refl
same_unless_left i none v s r q clocks (event.Printed n) h = refl
same_unless_left i none v s r q clocks event.Made h = refl
same_unless_left i none v s r q clocks event.Got h = refl
same_unless_left i none v s r q clocks event.Put h = refl
same_unless_left i none v s r q clocks event.Added h = refl
same_unless_left i none v s r q clocks event.Opened h = refl
same_unless_left i none v s r q clocks event.Closed h = refl
same_unless_left i none v s r q clocks event.Spawned h = refl
same_unless_left i none v s r q clocks event.Resumed h = refl
same_unless_left i none v s r q clocks event.Dropped h = absurd (false≢true (sym none ∙ dropped_at i h))
same_unless_left i none v s r q clocks event.Arrived h = refl
same_unless_left i none v s r q clocks event.Passed h = refl
same_unless_left i none v s r q clocks event.Ended h = absurd (false≢true (sym none ∙ ended_at i h))

same_unless_resumed : (i : Instr) → concerns_clocks i ≡ false → (v : World) (s : RunStep) (resumed c d : List ℕ) (e : Event)
    → shows e i ≡ true → at_clocks v s resumed c e ≡ at_clocks v s resumed d e
same_unless_resumed i none v s r c d event.Local h = refl
same_unless_resumed i none v s r c d (event.Printed n) h = refl
same_unless_resumed i none v s r c d event.Made h = refl
same_unless_resumed i none v s r c d event.Got h = refl
same_unless_resumed i none v s r c d event.Put h = refl
same_unless_resumed i none v s r c d event.Added h = refl
same_unless_resumed i none v s r c d event.Opened h = refl
same_unless_resumed i none v s r c d event.Closed h = refl
same_unless_resumed i none v s r c d event.Spawned h = refl
same_unless_resumed i none v s r c d event.Resumed h = absurd (false≢true (sym none ∙ resumed_at i h))
same_unless_resumed i none v s r c d event.Dropped h = absurd (false≢true (sym none ∙ left_so i (dropped_at i h)))
same_unless_resumed i none v s r c d event.Arrived h = absurd (false≢true (sym none ∙ arrived_at i h))
same_unless_resumed i none v s r c d event.Passed h = absurd (false≢true h)
same_unless_resumed i none v s r c d event.Ended h = absurd (false≢true (sym none ∙ left_so i (ended_at i h)))

-- ---- so none has to be asked about there

pub none_awaiting : (m : ModuleValue) (w : World) (a : ℕ) (next : Option Instr) (clocks : List ℕ)
    → IsNextIfAny m w a next → may_be concerns_clocks next ≡ false → AreEnoughAwaiting m w a clocks
none_awaiting m w a None clocks is none v s resumed e takes = absurd (true≢false none)
none_awaiting m w a (Some i) clocks is none v s resumed e takes =
    same_unless_resumed i none v s resumed clocks (awaiting w a) e (next_shows m w v a i e (is i refl) takes)

pub none_resumed : (m : ModuleValue) (w : World) (a : ℕ) (next : Option Instr) (resumed : List ℕ)
    → IsNextIfAny m w a next → may_be leaves_clocks next ≡ false → AreEnoughResumed m w a resumed
none_resumed m w a None resumed is none v s clocks e takes = absurd (true≢false none)
none_resumed m w a (Some i) resumed is none v s clocks e takes =
    same_unless_left i none v s resumed (resumed_by w a) clocks e (next_shows m w v a i e (is i refl) takes)
