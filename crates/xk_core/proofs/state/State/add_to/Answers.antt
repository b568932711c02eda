use Rattle.std.proofs.Common.{◌≡◌, true, refl, subst, sym, ap, ◌∙◌, slice_set, arith, length}
use Rattle.std.specs.Int.{w64, int_wrapping_add}
use Rattle.std.proofs.lemmas.Option.{slice_get_within, get_or_from_slice_get}
use Rattle.xk_types.specs.declared.instr.Instr.TheVariants as instruction
use Rattle.xk_types.specs.declared.world.Event.TheVariants as event
use Rattle.xk_types.specs.World.{World}
use Rattle.xk_types.specs.Step.{Stepped, settled, moved, none, stored}
use Rattle.xk_types.specs.Schedule.{is_step}
use Rattle.xk_registrations.specs.Standings.{told_of, rooms_of}
use Rattle.xk_activity.specs.Activities.{ActivitiesValue, act_at}
use Rattle.xk_core.specs.InstructionEffect.{carried}
use Rattle.xk_core.specs.Core.{CoreValue}
use Rattle.xk_core.specs.State.{StateValue}
use Rattle.xk_core.proofs.VisibleStepLemmas.{store_here, same_number}
use Rattle.xk_core.proofs.ReservationLemmas.{kept_on}
use Rattle.xk_core.proofs.state.State.add_to.Goals as goal

pub number-n-requires-clause-number : goal.number-n-requires-clause-number
number-n-requires-clause-number c =
    let m = c.self.inside.activities.module_run in
    let w : World = record { activities = c.self.inside.activities.list; clocks = told_of c.self.inside.standings; cells = c.self.inside.cells.items; steps = c.self.inside.steps; arguments = c.self.inside.arguments.items } in
    let can = subst (λ (v : StateValue). is_step (carried v.module_run v.world c.args.a (instruction.AddTo c.args.s c.args.x)) ≡ true) (sym c.self.view_is) c.requires.enabled in
    let r = store_here m w c.args.a (instruction.AddTo c.args.s c.args.x) c.args.s c.args.x (int_wrapping_add w64) event.Added refl can in
    (r.n, r.number)

pub index-requires : goal.index-requires
index-requires c =
    let m = c.self.inside.activities.module_run in
    let w : World = record { activities = c.self.inside.activities.list; clocks = told_of c.self.inside.standings; cells = c.self.inside.cells.items; steps = c.self.inside.steps; arguments = c.self.inside.arguments.items } in
    let can = subst (λ (v : StateValue). is_step (carried v.module_run v.world c.args.a (instruction.AddTo c.args.s c.args.x)) ≡ true) (sym c.self.view_is) c.requires.enabled in
    let r = store_here m w c.args.a (instruction.AddTo c.args.s c.args.x) c.args.s c.args.x (int_wrapping_add w64) event.Added refl can in
    let h = slice_get_within w.cells c.args.s r.old r.cell in
    omega (arith, c.self.inside.cells.ok)

pub index_mut-requires : goal.index_mut-requires
index_mut-requires c =
    let m = c.self.inside.activities.module_run in
    let w : World = record { activities = c.self.inside.activities.list; clocks = told_of c.self.inside.standings; cells = c.self.inside.cells.items; steps = c.self.inside.steps; arguments = c.self.inside.arguments.items } in
    let can = subst (λ (v : StateValue). is_step (carried v.module_run v.world c.args.a (instruction.AddTo c.args.s c.args.x)) ≡ true) (sym c.self.view_is) c.requires.enabled in
    let r = store_here m w c.args.a (instruction.AddTo c.args.s c.args.x) c.args.s c.args.x (int_wrapping_add w64) event.Added refl can in
    let h = slice_get_within w.cells c.args.s r.old r.cell in
    omega (arith, c.self.inside.cells.ok)

pub returns-clause-stepped : goal.returns-clause-stepped
returns-clause-stepped c =
    let m = c.self.inside.activities.module_run in
    let w : World = record { activities = c.self.inside.activities.list; clocks = told_of c.self.inside.standings; cells = c.self.inside.cells.items; steps = c.self.inside.steps; arguments = c.self.inside.arguments.items } in
    let can = subst (λ (v : StateValue). is_step (carried v.module_run v.world c.args.a (instruction.AddTo c.args.s c.args.x)) ≡ true) (sym c.self.view_is) c.requires.enabled in
    let r = store_here m w c.args.a (instruction.AddTo c.args.s c.args.x) c.args.s c.args.x (int_wrapping_add w64) event.Added refl can in
    subst (λ (v : StateValue). carried v.module_run v.world c.args.a (instruction.AddTo c.args.s c.args.x) ≡ Stepped c.end_step.new.self.world event.Added) c.self.view_is
    (r.goes ∙ ap (λ n. stored w c.args.a (act_at w.activities c.args.a) c.args.s (int_wrapping_add w64 r.old n) event.Added)
    (same_number r.n c.number-n.result (sym r.number ∙ c.number-n.ensures))
    ∙ ap (λ o. stored w c.args.a (act_at w.activities c.args.a) c.args.s (int_wrapping_add w64 o c.number-n.result) event.Added)
    (sym (get_or_from_slice_get w.cells c.args.s r.old _ r.cell) ∙ sym c.index.ensures)
    ∙ ap (λ (v : ActivitiesValue). Stepped (settled (record w {
      activities = v.list;
      clocks = moved c.args.a none w.clocks;
      cells = slice_set w.cells c.args.s (int_wrapping_add w64 c.index.result.now c.number-n.result);
    })) event.Added) (sym c.go_on.ensures)
    ∙ ap (λ (v : CoreValue). Stepped v.world event.Added) (sym c.end_step.ensures))

pub invariant_of-self : goal.invariant_of-self
invariant_of-self c =
    kept_on c.self.inside.activities c.go_on.new.self (length c.self.inside.standings.held) (rooms_of c.self.inside.standings) c.args.a _ c.self.invariant c.go_on.ensures refl refl
