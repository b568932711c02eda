-- What the steps of a run make, and of what. This project's own.
use Rattle.std.specs.Prelude.{ℤ, List, ◌++◌, length, flat_map, slice_get}
use Rattle.xk_types.specs.declared.world.Entry.{Entry}
use Rattle.xk_types.specs.Code.{ModuleValue}
use Rattle.xk_types.specs.World.{World}
use Rattle.xk_activity.specs.Activities.{act_at}
use Rattle.xk_activity.specs.Local.{code_of}
use Rattle.xk_show_events.specs.declared.steps.RunStep.{RunStep}
use Rattle.xk_show_events.specs.Steps.{Teller, run_step, seen_steps, told_of_run}
use Rattle.xk_races.specs.declared.deeds.Deed.{Deed}
use Rattle.xk_races.specs.Deeds.{tell_deeds}
use Rattle.xk_why.specs.declared.data.Spot.{Spot}
use Rattle.xk_why.specs.declared.flows.Flow.{Flow}
use Rattle.xk_why.specs.Data.{instr_flows_if}
use Rattle.xk_why.specs.Waits.{deed_flows}
use Rattle.xk_why.specs.Finishes.{finish_flows, main_alone}

-- where the activity of step s stands in world v, to which it led
abbrev pub spot : World → RunStep → Spot
spot v s = record {
  step = s;
  depth = length (act_at v.activities s.act).callers;
  place = (act_at v.activities s.act).frame.place;
}

-- of a step that led to world v, with these deeds
abbrev pub step_flows : ModuleValue → World → RunStep → List Deed → List Flow
step_flows m v s deeds =
    instr_flows_if (code_of m s.unit) (spot v s) (slice_get (code_of m s.unit) s.place) ++ flat_map (deed_flows v) deeds

abbrev pub tell_flows : ModuleValue → Teller Flow
tell_flows m a w v e = step_flows m v (run_step a w v e) (tell_deeds m a w v e)

-- Of all steps of a run, in their order: what has to do with numbers and clocks, and then, from the first step on again, what has to do
-- with finishes. No location stands in both, so that it is the same as one list in the order of the run.
abbrev pub flows_of_run : ModuleValue → List ℤ → List Entry → List Flow
flows_of_run m args log = told_of_run (tell_flows m) m args log ++ finish_flows main_alone (seen_steps m args log)
