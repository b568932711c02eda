use Rattle.std.proofs.Common.{◌≡◌, ◌+◌, ◌<◌, ap, sym, subst, ◌∙◌, refl, arith, length, length-set, slice_set, [], ◌∷◌, ◌++◌, map, List}
use Rattle.std.proofs.lemmas.List.{length_push}
use Rattle.xk_types.specs.declared.instr.Instr.TheVariants as instruction
use Rattle.xk_types.specs.declared.world.Event.TheVariants as event
use Rattle.xk_types.specs.World.{Activity, Clock, World}
use Rattle.xk_types.specs.Step.{Stepped, child, is_given, joined, onward, settled_clock}
use Rattle.xk_activity.specs.Activities.{ActivitiesValue, act_at}
use Rattle.xk_activity.specs.FrameStack.{values_at}
use Rattle.xk_registrations.specs.Standings.{told_of, rooms_of}
use Rattle.xk_core.specs.InstructionEffect.{carried}
use Rattle.xk_core.specs.Reservation.{AreReserved}
use Rattle.xk_core.specs.State.{StateValue, NewcomerValue, IsReady}
use Rattle.xk_core.proofs.NewActivityLemmas.{newcomer_of}
use Rattle.xk_core.proofs.OperandLemmas.{carried_within}
use Rattle.xk_core.proofs.VisibleStepLemmas.{spawn_here}
use Rattle.xk_core.proofs.ReservationLemmas.{reserved_more, onward_base}
use Rattle.xk_core.proofs.state.State.admit.Goals as goal

pub admit-requires-clause-room : goal.admit-requires-clause-room
admit-requires-clause-room c =
    let r = subst (λ (v : StateValue). IsReady v c.args.a c.requires.ready.0 c.requires.ready.1 (newcomer_of c.newcomer.inside.activity c.newcomer.inside.registrations)) (sym c.self.view_is)
    (subst (λ (x : NewcomerValue). IsReady c.args.self.now c.args.a c.requires.ready.0 c.requires.ready.1 x) (sym c.newcomer.view_is) c.requires.ready.2) in
    omega (arith, r.room, c.self.invariant.0)

pub admit-requires-clause-handed_on : goal.admit-requires-clause-handed_on
admit-requires-clause-handed_on c =
    let m = c.self.inside.activities.module_run in
    let w : World = record { activities = c.self.inside.activities.list; clocks = told_of c.self.inside.standings; cells = c.self.inside.cells.items; steps = c.self.inside.steps; arguments = c.self.inside.arguments.items } in
    let r = subst (λ (v : StateValue). IsReady v c.args.a c.requires.ready.0 c.requires.ready.1 (newcomer_of c.newcomer.inside.activity c.newcomer.inside.registrations)) (sym c.self.view_is)
    (subst (λ (x : NewcomerValue). IsReady c.args.self.now c.args.a c.requires.ready.0 c.requires.ready.1 x) (sym c.newcomer.view_is) c.requires.ready.2) in
    let lt : c.args.a < length w.activities = carried_within m w c.args.a (instruction.Spawn c.requires.ready.0 c.requires.ready.1) r.enabled in
    record { by = c.args.a; there = omega (arith, lt, c.self.invariant.0); given = is_given (values_at (act_at w.activities c.args.a).frame.slots c.requires.ready.1); is = r.given }

pub invariant_of-self : goal.invariant_of-self
invariant_of-self c =
    let m = c.self.inside.activities.module_run in
    let w : World = record { activities = c.self.inside.activities.list; clocks = told_of c.self.inside.standings; cells = c.self.inside.cells.items; steps = c.self.inside.steps; arguments = c.self.inside.arguments.items } in
    let r = subst (λ (v : StateValue). IsReady v c.args.a c.requires.ready.0 c.requires.ready.1 (newcomer_of c.newcomer.inside.activity c.newcomer.inside.registrations)) (sym c.self.view_is)
    (subst (λ (x : NewcomerValue). IsReady c.args.self.now c.args.a c.requires.ready.0 c.requires.ready.1 x) (sym c.newcomer.view_is) c.requires.ready.2) in
    let act : Activity = act_at w.activities c.args.a in
    let new : Activity = c.newcomer.inside.activity.act in
    let acts : c.admit-2.new.self.list ≡ slice_set w.activities c.args.a (onward act) ++ new ∷ [] =
    ap (λ (v : ActivitiesValue). v.list) c.admit-2.ensures ∙ ap (λ (v : ActivitiesValue). v.list ++ new ∷ []) c.go_on.ensures in
    let same : c.admit-2.new.self.module_run ≡ m = ap (λ (v : ActivitiesValue). v.module_run) c.admit-2.ensures ∙ ap (λ (v : ActivitiesValue). v.module_run) c.go_on.ensures in (
      omega (
        arith,
        c.admit.ensures.activities,
        c.self.invariant.0,
        ap (λ (l : List Activity). length l) acts,
        length_push (slice_set w.activities c.args.a (onward act)) new,
        length-set w.activities c.args.a (onward act),
      ),
      subst (λ k. AreReserved k c.admit-2.new.self.list (rooms_of c.admit.new.self)) (sym same)
          (reserved_more m w.activities c.admit-2.new.self.list (rooms_of c.self.inside.standings) (rooms_of c.admit.new.self) c.args.a c.newcomer.inside.registrations.room (onward act) new
          c.self.invariant.1 (onward_base act (onward act) refl refl) acts c.admit.ensures.clock_room c.admit.ensures.places r.places),
    )

pub returns-clause-started : goal.returns-clause-started
returns-clause-started c = λ unit args ready.
    let m = c.self.inside.activities.module_run in
    let w : World = record { activities = c.self.inside.activities.list; clocks = told_of c.self.inside.standings; cells = c.self.inside.cells.items; steps = c.self.inside.steps; arguments = c.self.inside.arguments.items } in
    let r = subst (λ (v : StateValue). IsReady v c.args.a unit args (newcomer_of c.newcomer.inside.activity c.newcomer.inside.registrations)) (sym c.self.view_is)
    (subst (λ (x : NewcomerValue). IsReady c.args.self.now c.args.a unit args x) (sym c.newcomer.view_is) ready) in
    let lt : c.args.a < length w.activities = carried_within m w c.args.a (instruction.Spawn unit args) r.enabled in
    let act : Activity = act_at w.activities c.args.a in
    let values = values_at act.frame.slots args in
    let new : Activity = c.newcomer.inside.activity.act in
    let acts : c.admit-2.new.self.list ≡ slice_set w.activities c.args.a (onward act) ++ child m c.args.a act unit values ∷ [] =
    ap (λ (v : ActivitiesValue). v.list) c.admit-2.ensures ∙ ap (λ (v : ActivitiesValue). v.list ++ new ∷ []) c.go_on.ensures
    ∙ ap (λ (x : Activity). slice_set w.activities c.args.a (onward act) ++ x ∷ []) r.act in
    let clocks : told_of c.admit.new.self ≡ map (settled_clock (w.steps + 1)) (joined c.args.a (is_given values) w.clocks) =
    c.admit.ensures.told c.args.a (is_given values) (w.steps + 1) (omega (arith, lt, c.self.invariant.0)) r.given in
    subst (λ (v : StateValue). carried v.module_run v.world c.args.a (instruction.Spawn unit args)
    ≡ Stepped (record { activities = c.admit-2.new.self.list; clocks = told_of c.admit.new.self; cells = w.cells; steps = w.steps + 1; arguments = w.arguments }) event.Spawned) c.self.view_is
    ((spawn_here m w c.args.a unit args r.enabled).2.goes
    ∙ sym (ap (λ (l : List Activity). Stepped (record { activities = l; clocks = told_of c.admit.new.self; cells = w.cells; steps = w.steps + 1; arguments = w.arguments }) event.Spawned) acts
    ∙ ap (λ (cs : List Clock). Stepped (record {
      activities = slice_set w.activities c.args.a (onward act) ++ child m c.args.a act unit values ∷ [];
      clocks = cs;
      cells = w.cells;
      steps = w.steps + 1;
      arguments = w.arguments;
    }) event.Spawned) clocks))
