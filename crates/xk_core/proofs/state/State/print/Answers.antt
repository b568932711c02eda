use Rattle.std.proofs.Common.{◌≡◌, true, subst, sym, ap, ◌∙◌, length, refl}
use Rattle.std.specs.Int.{w64}
use Rattle.std.proofs.lemmas.Int.{to_z-of_z}
use Rattle.xk_types.specs.declared.instr.Instr.TheVariants as instruction
use Rattle.xk_types.specs.declared.world.Event.TheVariants as event
use Rattle.xk_types.specs.World.{World}
use Rattle.xk_types.specs.Step.{Stepped, settled, moved, none}
use Rattle.xk_types.specs.Schedule.{is_step}
use Rattle.xk_registrations.specs.Standings.{told_of, rooms_of}
use Rattle.xk_activity.specs.Activities.{ActivitiesValue, Stands, act_at}
use Rattle.xk_core.specs.InstructionEffect.{carried}
use Rattle.xk_core.specs.Core.{CoreValue}
use Rattle.xk_core.specs.State.{StateValue}
use Rattle.xk_core.proofs.VisibleStepLemmas.{print_number, print_done}
use Rattle.xk_core.proofs.ReservationLemmas.{kept_on}
use Rattle.xk_core.proofs.state.State.print.Goals as goal

pub number-n-requires-clause-number : goal.number-n-requires-clause-number
number-n-requires-clause-number c =
    let m = c.self.inside.activities.module_run in
    let w : World = record { activities = c.self.inside.activities.list; clocks = told_of c.self.inside.standings; cells = c.self.inside.cells.items; steps = c.self.inside.steps; arguments = c.self.inside.arguments.items } in
    print_number m w c.args.a c.args.x
    (subst (λ (v : StateValue). is_step (carried v.module_run v.world c.args.a (instruction.Print c.args.x)) ≡ true) (sym c.self.view_is) c.requires.enabled)

pub go_on-requires-clause-stands : goal.go_on-requires-clause-stands
go_on-requires-clause-stands c =
    subst (λ (v : StateValue). Stands v.module_run (act_at v.world.activities c.args.a)) (sym c.self.view_is) c.requires.room.stands

pub returns-clause-stepped : goal.returns-clause-stepped
returns-clause-stepped c =
    let m = c.self.inside.activities.module_run in
    let w : World = record { activities = c.self.inside.activities.list; clocks = told_of c.self.inside.standings; cells = c.self.inside.cells.items; steps = c.self.inside.steps; arguments = c.self.inside.arguments.items } in
    let can = subst (λ (v : StateValue). is_step (carried v.module_run v.world c.args.a (instruction.Print c.args.x)) ≡ true) (sym c.self.view_is) c.requires.enabled in
    subst (λ (v : StateValue). carried v.module_run v.world c.args.a (instruction.Print c.args.x) ≡ Stepped c.end_step.new.self.world (event.Printed c.number-n.result)) c.self.view_is
    (print_done m w c.args.a c.args.x c.number-n.result can c.number-n.ensures
    ∙ ap (λ (v : ActivitiesValue). Stepped (settled (record w { activities = v.list; clocks = moved c.args.a none w.clocks })) (event.Printed c.number-n.result)) (sym c.go_on.ensures)
    ∙ ap (λ (v : CoreValue). Stepped v.world (event.Printed c.number-n.result)) (sym c.end_step.ensures))
    ∙ ap (λ n. Stepped c.end_step.new.self.world (event.Printed n)) (sym (to_z-of_z w64 c.number-n.result (record { sfits = c.number-n.type_inv })))

pub invariant_of-self : goal.invariant_of-self
invariant_of-self c =
    kept_on c.self.inside.activities c.go_on.new.self (length c.self.inside.standings.held) (rooms_of c.self.inside.standings) c.args.a _ c.self.invariant c.go_on.ensures refl refl
