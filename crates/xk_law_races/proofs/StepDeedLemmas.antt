-- A step at an instruction is seen to do what that instruction does, and the first deed that is told of it is one of the run.
use Rattle.std.proofs.Common.{◌≡◌, ℕ, true, true≢false, List, length, Some, None, Option, refl, sym, ap, ◌∙◌, ◌+◌}
use Rattle.std.specs.Prelude.{slice_get, option_and_then}
use Rattle.std.specs.Option.{option_map_or}
use Rattle.std.proofs.lemmas.Option.{none-some, same_Some, get_or_from_slice_get}
use Rattle.xk_types.specs.declared.instr.Instr.{Instr}
use Rattle.xk_types.specs.declared.instr.Instr.TheVariants as instr
use Rattle.xk_types.specs.declared.world.Status.{Status}
use Rattle.xk_types.specs.declared.world.Status.TheVariants as status
use Rattle.xk_types.specs.declared.world.Event.{Event}
use Rattle.xk_types.specs.Acceptance.{IsAccepted}
use Rattle.xk_types.specs.Code.{UnitValue, ModuleValue, IsWithinLimits}
use Rattle.xk_types.specs.World.{Activity, World, instruction_at}
use Rattle.xk_types.specs.Step.{Stepped, step}
use Rattle.xk_types.specs.Schedule.{IsReached, is_step}
use Rattle.xk_law_schedules.proofs.ReachabilityLemmas.{reached_sound}
use Rattle.xk_law_commute.specs.Conflicts.{next_instruction}
use Rattle.xk_law_commute.proofs.ChangeSquareLemmas.{found_of}
use Rattle.xk_law_names.proofs.StartEventLemmas.{at_advance}
use Rattle.xk_law_traces.proofs.InstructionEventLemmas.{shows, stepped_by, shown_at}
use Rattle.xk_law_traces.proofs.SwapLemmas.{next_of}
use Rattle.xk_show_events.specs.Steps.{run_step}
use Rattle.xk_races.specs.declared.deeds.Deed.{Deed}
use Rattle.xk_races.specs.declared.deeds.Part.{Part}
use Rattle.xk_races.specs.Deeds.{cell_of, cell_at, deed, tell_deeds}
use Rattle.xk_law_races.proofs.TurnLemmas.{Turn, IsToldOf, deeds}

-- A step at instruction i has an event as that instruction has, if it isn't an `advance`, whose second half is another step.
pub event_at : (m : ModuleValue) (limits : IsWithinLimits m) (ok : IsAccepted m) (w u : World) (a : ℕ) (e : Event) → IsReached m w
    → step m w a ≡ Stepped u e
    → (i : Instr) → next_instruction m w a ≡ Some i → (i ≡ instr.Advance → ⊥) → shows e i ≡ true
event_at m limits ok w u a e reached takes i next other = by x.0.status refl
  where
    x : (act : Activity) × (slice_get w.activities a ≡ Some act)
    x = found_of m w a u e takes

    here : instruction_at m x.0.frame ≡ Some i
    here = sym (next_of m w a x.0 x.1) ∙ next

    by : (st : Status) → x.0.status ≡ st → shows e i ≡ true
    by status.Running is = shown_at m w u a x.0 e x.1 takes is i here
    by status.Arrived is =
        let s = (reached_sound m limits ok w reached).activities a x.0 x.1 in
        absurd (other (same_Some i instr.Advance (sym here ∙ at_advance m x.0 s.u s.unit (s.advance is))))
    by status.Ended is = absurd (true≢false (sym (ap is_step (stepped_by m w u a x.0 e x.1 takes status.Ended is))))

module _ (m : ModuleValue) (w : World) (s : List ℕ) (t : Turn m w s) where
  -- the shared number of the instruction that a step stands at
  pub cell_is : (i : Instr) → next_instruction m t.here t.act ≡ Some i → cell_at m (run_step t.act t.here t.there t.e) ≡ cell_of (Some i)
  cell_is i next =
      ap (λ (x : Activity). option_map_or (λ (unit : UnitValue). cell_of (slice_get unit.code x.frame.place))
      (slice_get m.units x.frame.unit) 0)
      (get_or_from_slice_get t.here.activities t.act x.0 _ x.1)
      ∙ by (slice_get m.units x.0.frame.unit) (sym (next_of m t.here t.act x.0 x.1) ∙ next)
    where
      x : (act : Activity) × (slice_get t.here.activities t.act ≡ Some act)
      x = found_of m t.here t.act t.there t.e t.takes

      by : (o : Option UnitValue) → option_and_then (λ (unit : UnitValue). slice_get unit.code x.0.frame.place) o ≡ Some i
          → option_map_or (λ (unit : UnitValue). cell_of (slice_get unit.code x.0.frame.place)) o 0 ≡ cell_of (Some i)
      by None h = absurd (none-some i h)
      by (Some unit) h = ap cell_of h

  -- a deed with this part is told of the step
  pub record IsDeedOf (p : Part) : Type 0 where
    pub number : ℕ
    pub deed : Deed
    pub told : IsToldOf m w s t number deed
    pub part : deed.part ≡ p

  -- one that stands among its deeds is
  pub deed_told : (p : Part) (i : ℕ)
      → slice_get (tell_deeds m t.act t.here t.there t.e) i ≡ Some (deed (run_step t.act t.here t.there t.e) p) → IsDeedOf p
  deed_told p i among = record {
    number = length (deeds m t.before w) + i;
    deed = deed (run_step t.act t.here t.there t.e) p;
    told = record { offset = i; number = refl; among = among };
    part = refl;
  }

  -- as the first one
  pub first_deed : (p : Part)
      → slice_get (tell_deeds m t.act t.here t.there t.e) 0 ≡ Some (deed (run_step t.act t.here t.there t.e) p) → IsDeedOf p
  first_deed p first = deed_told p 0 first
