use Rattle.std.proofs.Common.{◌≡◌, ◌+◌, true, [], ◌∷◌, ◌++◌, length, map, subst, sym, refl, ap, ◌∙◌, slice_set, List}
use Rattle.xk_types.specs.declared.instr.Instr.TheVariants as instruction
use Rattle.xk_types.specs.declared.world.Event.TheVariants as event
use Rattle.xk_types.specs.declared.world.Value.TheVariants as value
use Rattle.xk_types.specs.World.{Activity, Clock, World}
use Rattle.xk_types.specs.Step.{Stepped, settled_clock, new_clock, onward, with_slots}
use Rattle.xk_types.specs.Schedule.{is_step}
use Rattle.xk_law_schedules.specs.ClockRoom.{HasRoomLeft}
use Rattle.xk_registrations.specs.Standings.{told_of, rooms_of}
use Rattle.xk_activity.specs.Activities.{ActivitiesValue, act_at}
use Rattle.xk_core.specs.InstructionEffect.{carried}
use Rattle.xk_core.specs.State.{StateValue}
use Rattle.xk_core.proofs.OperandLemmas.{carried_within}
use Rattle.xk_core.proofs.ReservationLemmas.{kept_by, onward_base, room_to_make}
use Rattle.xk_core.proofs.VisibleStepLemmas.{make_here}
use Rattle.xk_core.proofs.state.State.make.Goals as goal

pub make-name-requires-clause-room : goal.make-name-requires-clause-room
make-name-requires-clause-room c =
    let m = c.self.inside.activities.module_run in
    let w : World = record { activities = c.self.inside.activities.list; clocks = told_of c.self.inside.standings; cells = c.self.inside.cells.items; steps = c.self.inside.steps; arguments = c.self.inside.arguments.items } in
    let can = subst (λ (v : StateValue). is_step (carried v.module_run v.world c.args.a (instruction.Make c.args.d)) ≡ true) (sym c.self.view_is) c.requires.enabled in
    let left = subst (λ (v : StateValue). HasRoomLeft v.module_run v.world c.args.a) (sym c.self.view_is) c.requires.left in
    room_to_make m w c.args.a (rooms_of c.self.inside.standings) (carried_within m w c.args.a (instruction.Make c.args.d) can) c.self.invariant.1 left

pub write-requires-clause-there : goal.write-requires-clause-there
write-requires-clause-there c =
    let m = c.self.inside.activities.module_run in
    let w : World = record { activities = c.self.inside.activities.list; clocks = told_of c.self.inside.standings; cells = c.self.inside.cells.items; steps = c.self.inside.steps; arguments = c.self.inside.arguments.items } in
    let can = subst (λ (v : StateValue). is_step (carried v.module_run v.world c.args.a (instruction.Make c.args.d)) ≡ true) (sym c.self.view_is) c.requires.enabled in
    carried_within m w c.args.a (instruction.Make c.args.d) can

pub write-requires-clause-slot : goal.write-requires-clause-slot
write-requires-clause-slot c =
    let m = c.self.inside.activities.module_run in
    let w : World = record { activities = c.self.inside.activities.list; clocks = told_of c.self.inside.standings; cells = c.self.inside.cells.items; steps = c.self.inside.steps; arguments = c.self.inside.arguments.items } in
    let can = subst (λ (v : StateValue). is_step (carried v.module_run v.world c.args.a (instruction.Make c.args.d)) ≡ true) (sym c.self.view_is) c.requires.enabled in
    (make_here m w c.args.a c.args.d can).0

pub invariant_of-self : goal.invariant_of-self
invariant_of-self c =
    let v = c.self.inside.activities in
    let act : Activity = act_at v.list c.args.a in
    let y : Activity = onward (with_slots act (slice_set act.frame.slots c.args.d (value.Clock c.make-name.result))) in
    kept_by v c.write.new.self (length c.self.inside.standings.held) (length c.make-name.new.self.held) (rooms_of c.self.inside.standings) (rooms_of c.make-name.new.self) c.args.a y
    c.self.invariant c.write.ensures c.make-name.ensures.activities c.make-name.ensures.rooms (onward_base act y refl refl)

pub returns-clause-stepped : goal.returns-clause-stepped
returns-clause-stepped c =
    let m = c.self.inside.activities.module_run in
    let w : World = record { activities = c.self.inside.activities.list; clocks = told_of c.self.inside.standings; cells = c.self.inside.cells.items; steps = c.self.inside.steps; arguments = c.self.inside.arguments.items } in
    let can = subst (λ (v : StateValue). is_step (carried v.module_run v.world c.args.a (instruction.Make c.args.d)) ≡ true) (sym c.self.view_is) c.requires.enabled in
    let act : Activity = act_at w.activities c.args.a in
    let y : Activity = onward (with_slots act (slice_set act.frame.slots c.args.d (value.Clock (length w.clocks)))) in
    let acts : c.write.new.self.list ≡ slice_set w.activities c.args.a y =
    ap (λ (v : ActivitiesValue). v.list) c.write.ensures
    ∙ ap (λ k. slice_set w.activities c.args.a (onward (with_slots act (slice_set act.frame.slots c.args.d (value.Clock k))))) c.make-name.ensures.number in
    let clocks : told_of c.make-name.new.self ≡ map (settled_clock (w.steps + 1)) (w.clocks ++ new_clock (length w.activities) c.args.a ∷ []) =
    c.make-name.ensures.told (w.steps + 1) ∙ ap (λ k. map (settled_clock (w.steps + 1)) (w.clocks ++ new_clock k c.args.a ∷ [])) c.self.invariant.0 in
    subst (λ (v : StateValue). carried v.module_run v.world c.args.a (instruction.Make c.args.d)
    ≡ Stepped (record { activities = c.write.new.self.list; clocks = told_of c.make-name.new.self; cells = w.cells; steps = w.steps + 1; arguments = w.arguments }) event.Made) c.self.view_is
    ((make_here m w c.args.a c.args.d can).1
    ∙ sym (ap (λ (l : List Activity). Stepped (record { activities = l; clocks = told_of c.make-name.new.self; cells = w.cells; steps = w.steps + 1; arguments = w.arguments }) event.Made) acts
    ∙ ap (λ (cs : List Clock). Stepped (record { activities = slice_set w.activities c.args.a y; clocks = cs; cells = w.cells; steps = w.steps + 1; arguments = w.arguments }) event.Made) clocks))
