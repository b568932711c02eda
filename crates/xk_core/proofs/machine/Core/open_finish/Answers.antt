use Rattle.std.proofs.Common.{◌≡◌, ap, Some, slice_set, sym, subst}
use Rattle.xk_types.specs.declared.instr.Instr.TheVariants as instruction
use Rattle.xk_types.specs.World.{Activity}
use Rattle.std.proofs.lemmas.Option.{get_or_from_slice_get}
use Rattle.xk_activity.specs.Activities.{act_at, nobody}
use Rattle.xk_types.specs.Step.{Stepped, step, settled, onward, moved, none}
use Rattle.xk_finishes.specs.Tree.{node_entered, changed_at}
use Rattle.xk_core.specs.Core.{CoreValue, next_instruction}
use Rattle.xk_core.specs.FinishView.{with_finishes}
use Rattle.xk_core.proofs.FinishTreeLemmas.{held, held_on, parts_in, parts_roomy, runs, exists, alive, open_room, open_stepped, open_are}
use Rattle.xk_types.specs.declared.world.Event.TheVariants as event
use Rattle.xk_core.proofs.machine.Core.open_finish.Goals as goal

pub enter-requires-clause-exists : goal.enter-requires-clause-exists
enter-requires-clause-exists c =
    let m = c.self.inside.state.module_run in
    let ns = c.self.inside.finishes in
    let w = c.self.inside.state.world in
    let h = held m ns w c.self.invariant in
    let next = subst (λ (v : CoreValue). next_instruction v.module_run v.world c.args.act ≡ Some (instruction.Finish c.args.e)) (sym c.self.view_is) c.requires.here in
    (exists m ns w c.args.act h (instruction.Finish c.args.e) (runs m ns w c.args.act h (instruction.Finish c.args.e) next)).0

pub enter-requires-clause-runs : goal.enter-requires-clause-runs
enter-requires-clause-runs c =
    let m = c.self.inside.state.module_run in
    let ns = c.self.inside.finishes in
    let w = c.self.inside.state.world in
    let h = held m ns w c.self.invariant in
    let next = subst (λ (v : CoreValue). next_instruction v.module_run v.world c.args.act ≡ Some (instruction.Finish c.args.e)) (sym c.self.view_is) c.requires.here in
    alive m ns w c.args.act h (instruction.Finish c.args.e) (runs m ns w c.args.act h (instruction.Finish c.args.e) next)

pub enter-requires-clause-room : goal.enter-requires-clause-room
enter-requires-clause-room c =
    let m = c.self.inside.state.module_run in
    let ns = c.self.inside.finishes in
    let w = c.self.inside.state.world in
    let h = held m ns w c.self.invariant in
    let next = subst (λ (v : CoreValue). next_instruction v.module_run v.world c.args.act ≡ Some (instruction.Finish c.args.e)) (sym c.self.view_is) c.requires.here in
    open_room m ns w c.args.act h c.args.e (runs m ns w c.args.act h (instruction.Finish c.args.e) next)

pub go_on-requires-clause-there : goal.go_on-requires-clause-there
go_on-requires-clause-there c =
    let m = c.self.inside.state.module_run in
    let ns = c.self.inside.finishes in
    let w = c.self.inside.state.world in
    let h = held m ns w c.self.invariant in
    let next = subst (λ (v : CoreValue). next_instruction v.module_run v.world c.args.act ≡ Some (instruction.Finish c.args.e)) (sym c.self.view_is) c.requires.here in
    rw c.act.view_is (exists m ns w c.args.act h (instruction.Finish c.args.e) (runs m ns w c.args.act h (instruction.Finish c.args.e) next)).1

pub go_on-requires-clause-room : goal.go_on-requires-clause-room
go_on-requires-clause-room c =
    let m = c.self.inside.state.module_run in
    let ns = c.self.inside.finishes in
    let w = c.self.inside.state.world in
    let h = held m ns w c.self.invariant in
    let next = subst (λ (v : CoreValue). next_instruction v.module_run v.world c.args.act ≡ Some (instruction.Finish c.args.e)) (sym c.self.view_is) c.requires.here in
    rw c.act.view_is (parts_roomy m ns w c.args.act h (exists m ns w c.args.act h (instruction.Finish c.args.e) (runs m ns w c.args.act h (instruction.Finish c.args.e) next)).1)

pub invariant_of-self : goal.invariant_of-self
invariant_of-self c =
    let m = c.self.inside.state.module_run in
    let ns = c.self.inside.finishes in
    let w = c.self.inside.state.world in
    let h = held m ns w c.self.invariant in
    let next = subst (λ (v : CoreValue). next_instruction v.module_run v.world c.args.act ≡ Some (instruction.Finish c.args.e)) (sym c.self.view_is) c.requires.here in
    let r = (runs m ns w c.args.act h (instruction.Finish c.args.e) next) in
    let is : c.go_on.new.self.world ≡ settled (record w { activities = slice_set w.activities c.args.act (onward r.x); clocks = moved c.args.act none w.clocks }) =
    subst (λ (act : Activity). c.go_on.new.self.world ≡ settled (record w { activities = slice_set w.activities c.args.act (onward act); clocks = moved c.args.act none w.clocks }))
    (get_or_from_slice_get w.activities c.args.act r.x nobody r.found)
    (subst (λ n. c.go_on.new.self.world ≡ settled (record w { activities = slice_set w.activities n (onward (act_at w.activities n)); clocks = moved n none w.clocks }))
    c.act.view_is (ap (λ (v : CoreValue). v.world) c.go_on.ensures)) in
    rw c.enter.ensures.opened (parts_in m c.go_on.new.self.module_run (changed_at ns c.args.act node_entered) c.go_on.new.self.world (ap (λ (v : CoreValue). v.module_run) c.go_on.ensures)
    (held_on m ns (changed_at ns c.args.act node_entered) w c.go_on.new.self.world c.args.act event.Opened h
    (open_are m ns w c.args.act h c.args.e r c.go_on.new.self.world is)
    (open_stepped m ns w c.args.act h c.args.e next r c.go_on.new.self.world is)))

pub returns-clause-stepped : goal.returns-clause-stepped
returns-clause-stepped c =
    let m = c.self.inside.state.module_run in
    let ns = c.self.inside.finishes in
    let w = c.self.inside.state.world in
    let h = held m ns w c.self.invariant in
    let next = subst (λ (v : CoreValue). next_instruction v.module_run v.world c.args.act ≡ Some (instruction.Finish c.args.e)) (sym c.self.view_is) c.requires.here in
    let r = (runs m ns w c.args.act h (instruction.Finish c.args.e) next) in
    let is : c.go_on.new.self.world ≡ settled (record w { activities = slice_set w.activities c.args.act (onward r.x); clocks = moved c.args.act none w.clocks }) =
    subst (λ (act : Activity). c.go_on.new.self.world ≡ settled (record w { activities = slice_set w.activities c.args.act (onward act); clocks = moved c.args.act none w.clocks }))
    (get_or_from_slice_get w.activities c.args.act r.x nobody r.found)
    (subst (λ n. c.go_on.new.self.world ≡ settled (record w { activities = slice_set w.activities n (onward (act_at w.activities n)); clocks = moved n none w.clocks }))
    c.act.view_is (ap (λ (v : CoreValue). v.world) c.go_on.ensures)) in
    rw c.enter.ensures.opened (subst (λ (v : CoreValue). step v.module_run v.world c.args.act ≡ Stepped
    (with_finishes (changed_at ns c.args.act node_entered) c.go_on.new.self.world) event.Opened) c.self.view_is (open_stepped m ns w c.args.act h c.args.e next r c.go_on.new.self.world is))
