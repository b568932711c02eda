use Rattle.std.proofs.Common.{◌≡◌, true, refl, subst, sym, ap, ◌∙◌, slice_set, length}
use Rattle.std.specs.Int.{w64}
use Rattle.std.proofs.lemmas.Int.{to_z-of_z}
use Rattle.std.proofs.lemmas.Option.{slice_get_within}
use Rattle.xk_types.specs.declared.instr.Instr.TheVariants as instruction
use Rattle.xk_types.specs.declared.world.Event.TheVariants as event
use Rattle.xk_types.specs.World.{World}
use Rattle.xk_types.specs.Step.{Stepped, settled, moved, none, stored}
use Rattle.xk_types.specs.Schedule.{is_step}
use Rattle.xk_registrations.specs.Standings.{told_of, rooms_of}
use Rattle.xk_activity.specs.Activities.{ActivitiesValue, act_at}
use Rattle.xk_core.specs.InstructionEffect.{carried}
use Rattle.xk_core.specs.Core.{CoreValue}
use Rattle.xk_core.specs.State.{StateValue}
use Rattle.xk_core.proofs.VisibleStepLemmas.{store_here, same_number}
use Rattle.xk_core.proofs.ReservationLemmas.{kept_on}
use Rattle.xk_core.proofs.state.State.put.Goals as goal

pub number-n-requires-clause-number : goal.number-n-requires-clause-number
number-n-requires-clause-number c =
    let m = c.self.inside.activities.module_run in
    let w : World = record { activities = c.self.inside.activities.list; clocks = told_of c.self.inside.standings; cells = c.self.inside.cells.items; steps = c.self.inside.steps; arguments = c.self.inside.arguments.items } in
    let can = subst (λ (v : StateValue). is_step (carried v.module_run v.world c.args.a (instruction.Put c.args.s c.args.x)) ≡ true) (sym c.self.view_is) c.requires.enabled in
    let r = store_here m w c.args.a (instruction.Put c.args.s c.args.x) c.args.s c.args.x (λ old n. n) event.Put refl can in
    (r.n, r.number)

pub set_cell-requires : goal.set_cell-requires
set_cell-requires c =
    let m = c.self.inside.activities.module_run in
    let w : World = record { activities = c.self.inside.activities.list; clocks = told_of c.self.inside.standings; cells = c.self.inside.cells.items; steps = c.self.inside.steps; arguments = c.self.inside.arguments.items } in
    let can = subst (λ (v : StateValue). is_step (carried v.module_run v.world c.args.a (instruction.Put c.args.s c.args.x)) ≡ true) (sym c.self.view_is) c.requires.enabled in
    let r = store_here m w c.args.a (instruction.Put c.args.s c.args.x) c.args.s c.args.x (λ old n. n) event.Put refl can in
    slice_get_within w.cells c.args.s r.old r.cell

pub returns-clause-stepped : goal.returns-clause-stepped
returns-clause-stepped c =
    let m = c.self.inside.activities.module_run in
    let w : World = record { activities = c.self.inside.activities.list; clocks = told_of c.self.inside.standings; cells = c.self.inside.cells.items; steps = c.self.inside.steps; arguments = c.self.inside.arguments.items } in
    let can = subst (λ (v : StateValue). is_step (carried v.module_run v.world c.args.a (instruction.Put c.args.s c.args.x)) ≡ true) (sym c.self.view_is) c.requires.enabled in
    let r = store_here m w c.args.a (instruction.Put c.args.s c.args.x) c.args.s c.args.x (λ old n. n) event.Put refl can in
    subst (λ (v : StateValue). carried v.module_run v.world c.args.a (instruction.Put c.args.s c.args.x) ≡ Stepped c.end_step.new.self.world event.Put) c.self.view_is
    (r.goes ∙ ap (λ n. stored w c.args.a (act_at w.activities c.args.a) c.args.s n event.Put) (same_number r.n c.number-n.result (sym r.number ∙ c.number-n.ensures))
    ∙ ap (λ (v : ActivitiesValue). Stepped (settled (record w { activities = v.list; clocks = moved c.args.a none w.clocks; cells = slice_set w.cells c.args.s c.number-n.result })) event.Put)
    (sym c.go_on.ensures)
    ∙ ap (λ cs. Stepped (settled (record w { activities = c.go_on.new.self.list; clocks = moved c.args.a none w.clocks; cells = cs })) event.Put)
    (sym (c.set_cell.ensures ∙ ap (slice_set w.cells c.args.s) (to_z-of_z w64 c.number-n.result (record { sfits = c.number-n.type_inv }))))
    ∙ ap (λ (v : CoreValue). Stepped v.world event.Put) (sym c.end_step.ensures))

pub invariant_of-self : goal.invariant_of-self
invariant_of-self c =
    kept_on c.self.inside.activities c.go_on.new.self (length c.self.inside.standings.held) (rooms_of c.self.inside.standings) c.args.a _ c.self.invariant c.go_on.ensures refl refl
