-- What a step does for those who wait at clocks, and whom it waited for there. Who waits for whom, `xk_types` says in `Step.antt`: a clock
-- goes on to its next phase once nobody is registered on it who has neither resumed nor left it.
use Rattle.std.specs.Prelude.{ℕ, ◌-◌, true, List, Option, Some, None, if◌then◌else◌}
use Rattle.std.specs.Option.{option_to_list}
use Rattle.xk_types.specs.World.{World}
use Rattle.xk_core.specs.Core.{has_advanced}
use Rattle.xk_show_events.specs.declared.steps.RunStep.{RunStep}
use Rattle.xk_show_events.specs.Worlds.{phase_of}
use Rattle.xk_races.specs.declared.deeds.Deed.{Deed}
use Rattle.xk_races.specs.declared.deeds.Part.{Part}
use Rattle.xk_races.specs.declared.deeds.Part.TheVariants as part
use Rattle.xk_why.specs.declared.flows.Flow.{Flow}
use Rattle.xk_why.specs.declared.flows.Location.{Location}
use Rattle.xk_why.specs.declared.flows.Location.TheVariants as location
use Rattle.xk_why.specs.Data.{flow}

abbrev pub signals : ℕ → ℕ → Option Location
signals c phase = Some (location.Signals (record { clock = c; phase = phase }))

-- step s is one more of these
abbrev pub added : RunStep → Option Location → Flow
added s to = record { step = s; to = to; adds = true; first = None; second = None }

-- step s waited for these
abbrev pub used : RunStep → Option Location → Flow
used s first = flow s None first None

-- In world v, to which step s led: it is one by which clock c ceased to await its activity, in the phase in which the clock was before the
-- step; or it passes clock c, which waited for those of the phase before the present one.
abbrev pub part_flow : World → RunStep → Part → Option Flow
part_flow v s (part.Signal c) = Some (added s (signals c (phase_of v c - (if has_advanced v c then 1 else 0))))
part_flow v s (part.Pass c) = Some (used s (signals c (phase_of v c - 1)))
part_flow v s _ = None

abbrev pub deed_flows : World → Deed → List Flow
deed_flows v d = option_to_list (part_flow v d.step d.part)
