use Rattle.std.proofs.Common.{◌≡◌, ◌<◌, ◌≤◌, min, true, subst, sym, ◌∙◌, ap, length, arith, List, All}
use Rattle.std.proofs.lemmas.List.{length-map}
use Rattle.std.proofs.lemmas.Option.{slice_get_within}
use Rattle.xk_types.specs.declared.instr.Instr.TheVariants as instruction
use Rattle.xk_types.specs.declared.world.Value.{Value}
use Rattle.xk_types.specs.Code.{IsWithinLimits}
use Rattle.xk_types.specs.World.{Activity, World}
use Rattle.xk_types.specs.Step.{is_given, child}
use Rattle.xk_types.specs.Schedule.{is_step}
use Rattle.xk_types.specs.Bound.{places_from}
use Rattle.xk_activity.specs.Activities.{act_at}
use Rattle.xk_activity.specs.Local.{FramesValue}
use Rattle.xk_activity.specs.FrameStack.{values_at, value_at}
use Rattle.xk_law_schedules.specs.ClockRoom.{places_of}
use Rattle.xk_registrations.specs.View.{held}
use Rattle.xk_registrations.specs.RegistrationChanges.{IsGiven}
use Rattle.xk_registrations.specs.Standings.{told_of}
use Rattle.xk_core.specs.InstructionEffect.{carried}
use Rattle.xk_core.specs.State.{StateValue}
use Rattle.xk_core.proofs.VisibleStepLemmas.{spawn_here, spawn_fits}
use Rattle.xk_core.proofs.NewActivityLemmas.{made_ready}
use Rattle.xk_core.proofs.state.State.prepare.Goals as goal

pub values-requires : goal.values-requires
values-requires c =
    let m = c.self.inside.activities.module_run in
    let w : World = record { activities = c.self.inside.activities.list; clocks = told_of c.self.inside.standings; cells = c.self.inside.cells.items; steps = c.self.inside.steps; arguments = c.self.inside.arguments.items } in
    let can = subst (λ (v : StateValue). is_step (carried v.module_run v.world c.args.a (instruction.Spawn c.args.unit c.args.args.now)) ≡ true) (sym c.self.view_is) c.requires.enabled in
    subst (λ (f : FramesValue). All (λ s. s < length f.frame.slots) c.args.args.now) (sym c.frames.ensures) (spawn_here m w c.args.a c.args.unit c.args.args.now can).2.slots

pub begin-requires-clause-unit : goal.begin-requires-clause-unit
begin-requires-clause-unit c =
    let m = c.self.inside.activities.module_run in
    let w : World = record { activities = c.self.inside.activities.list; clocks = told_of c.self.inside.standings; cells = c.self.inside.cells.items; steps = c.self.inside.steps; arguments = c.self.inside.arguments.items } in
    let can = subst (λ (v : StateValue). is_step (carried v.module_run v.world c.args.a (instruction.Spawn c.args.unit c.args.args.now)) ≡ true) (sym c.self.view_is) c.requires.enabled in
    let s = spawn_here m w c.args.a c.args.unit c.args.args.now can in
    slice_get_within m.units c.args.unit s.0 s.1

pub begin-requires-clause-fits : goal.begin-requires-clause-fits
begin-requires-clause-fits c =
    let m = c.self.inside.activities.module_run in
    let w : World = record { activities = c.self.inside.activities.list; clocks = told_of c.self.inside.standings; cells = c.self.inside.cells.items; steps = c.self.inside.steps; arguments = c.self.inside.arguments.items } in
    let can = subst (λ (v : StateValue). is_step (carried v.module_run v.world c.args.a (instruction.Spawn c.args.unit c.args.args.now)) ≡ true) (sym c.self.view_is) c.requires.enabled in
    let limits : IsWithinLimits m = subst (λ (v : StateValue). IsWithinLimits v.module_run) (sym c.self.view_is) c.requires.limits in
    let fits = spawn_fits m w c.args.a c.args.unit c.args.args.now limits can in
    let slots : List Value = (act_at w.activities c.args.a).frame.slots in
    let listed = c.in_ok-values.ensures ∙ ap (λ (f : FramesValue). values_at f.frame.slots c.args.args.now) c.frames.ensures in
    let long = ap (λ (l : List Value). length l) (c.deref.ensures.value ∙ listed) ∙ length-map c.args.args.now (value_at slots) in
    omega (arith, fits, long)

pub returns-clause-ready : goal.returns-clause-ready
returns-clause-ready c =
    let m = c.self.inside.activities.module_run in
    let w : World = record { activities = c.self.inside.activities.list; clocks = told_of c.self.inside.standings; cells = c.self.inside.cells.items; steps = c.self.inside.steps; arguments = c.self.inside.arguments.items } in
    let s : StateValue = record {
      module_run = m;
      world = w;
      held = c.self.inside.standings.held;
      room = min c.self.inside.activities.room c.self.inside.standings.room;
    } in
    let now : World = record { activities = c.reserve.new.self.list; clocks = told_of c.reserve-2.new.self; cells = c.self.inside.cells.items; steps = c.self.inside.steps; arguments = c.self.inside.arguments.items } in
    let t : StateValue = record {
      module_run = c.reserve.new.self.module_run;
      world = now;
      held = c.reserve-2.new.self.held;
      room = min c.reserve.new.self.room c.reserve-2.new.self.room;
    } in
    let act : Activity = act_at w.activities c.args.a in
    let values : List Value = values_at act.frame.slots c.args.args.now in
    let can = subst (λ (v : StateValue). is_step (carried v.module_run v.world c.args.a (instruction.Spawn c.args.unit c.args.args.now)) ≡ true) (sym c.self.view_is) c.requires.enabled in
    let most = subst (λ k. c.places-places.result ≡ places_from k c.args.unit) c.verified.ensures c.places-places.ensures in
    let listed = c.in_ok-values.ensures ∙ ap (λ (f : FramesValue). values_at f.frame.slots c.args.args.now) c.frames.ensures in
    let is : c.in_ok-activity.activity.act ≡ child m c.args.a act c.args.unit values =
    c.in_ok-activity.ensures.activity c.args.a ∙ ap (λ (l : List Value). child m c.args.a act c.args.unit l) (c.deref.ensures.value ∙ listed) in
    let given = subst (λ (l : List Value). IsGiven (is_given l) (held c.self.inside.standings.held c.args.a) c.in_ok-registrations.registrations.list)
    (c.deref-2.ensures.value ∙ listed) c.in_ok-registrations.ensures.given in
    let fits : places_of m c.in_ok-activity.activity.act ≤ c.in_ok-registrations.registrations.room =
    rw is (omega (arith, most, c.in_ok-registrations.ensures.places)) in
    let room : length w.activities < min c.reserve.new.self.room c.reserve-2.new.self.room = omega (
      arith,
      c.in_ok-reserve.ensures.reserved,
      c.in_ok-reserve-2.ensures.reserved,
      ap length c.reserve.ensures.list,
      ap length c.reserve-2.ensures.held,
      c.self.invariant.0,
    ) in
    made_ready s t c.args.a c.args.unit c.args.args.now _ (grind arith) c.reserve-2.ensures.held can room c.in_ok-activity.ensures.module is given fits
