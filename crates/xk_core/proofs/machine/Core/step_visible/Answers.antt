use Rattle.std.proofs.Common.{◌≡◌, true, Some, ◌∙◌, ap, sym, subst}
use Rattle.xk_types.specs.Step.{Stepped, step}
use Rattle.xk_types.specs.Schedule.{is_enabled}
use Rattle.xk_finishes.specs.Tree.{node_ended, changed_at}
use Rattle.xk_core.specs.InstructionEffect.{carried, IsLast}
use Rattle.xk_core.specs.Core.{CoreValue, next_instruction}
use Rattle.xk_core.specs.FinishView.{with_finishes}
use Rattle.xk_core.proofs.FinishTreeLemmas.{held, held_on, parts_in, parts_roomy, last_told, runs, exists, alive, carry_enabled, carry_stepped, carry_closed, carry_ended}
use Rattle.xk_law_schedules.specs.ClockRoom.{HasRoomLeft}
use Rattle.xk_core.proofs.ReservationLemmas.{make_left}
use Rattle.xk_core.proofs.machine.Core.step_visible.Goals as goal

pub execute_visible-event-requires-clause-enabled : goal.execute_visible-event-requires-clause-enabled
execute_visible-event-requires-clause-enabled c =
    let m = c.self.inside.state.module_run in
    let ns = c.self.inside.finishes in
    let w = c.self.inside.state.world in
    let h = held m ns w c.self.invariant in
    let can = subst (λ (v : CoreValue). is_enabled v.module_run v.world c.args.act ≡ true) (sym c.self.view_is) c.requires.enabled in
    let next = subst (λ (v : CoreValue). next_instruction v.module_run v.world c.args.act ≡ Some c.args.instr.now) (sym c.self.view_is) c.requires.here in
    rw c.act.view_is (carry_enabled m ns w c.args.act h c.args.instr.now c.requires.plain next can)

pub execute_visible-event-requires-clause-last : goal.execute_visible-event-requires-clause-last
execute_visible-event-requires-clause-last c =
    let m = c.self.inside.state.module_run in
    let ns = c.self.inside.finishes in
    let w = c.self.inside.state.world in
    let h = held m ns w c.self.invariant in
    λ e. subst (λ n. IsLast w n) (sym c.act.view_is)
    (last_told m ns w c.args.act h (subst (λ (v : CoreValue). IsLast v.world c.args.act) (sym c.self.view_is) (c.requires.last e)))

pub execute_visible-event-requires-clause-room : goal.execute_visible-event-requires-clause-room
execute_visible-event-requires-clause-room c =
    let m = c.self.inside.state.module_run in
    let ns = c.self.inside.finishes in
    let w = c.self.inside.state.world in
    let h = held m ns w c.self.invariant in
    let next = subst (λ (v : CoreValue). next_instruction v.module_run v.world c.args.act ≡ Some c.args.instr.now) (sym c.self.view_is) c.requires.here in
    rw c.act.view_is (parts_roomy m ns w c.args.act h (exists m ns w c.args.act h c.args.instr.now (runs m ns w c.args.act h c.args.instr.now next)).1)

pub execute_visible-event-requires-clause-left : goal.execute_visible-event-requires-clause-left
execute_visible-event-requires-clause-left c =
    let m = c.self.inside.state.module_run in
    let ns = c.self.inside.finishes in
    let w = c.self.inside.state.world in
    let h = held m ns w c.self.invariant in
    let next = subst (λ (v : CoreValue). next_instruction v.module_run v.world c.args.act ≡ Some c.args.instr.now) (sym c.self.view_is) c.requires.here in
    λ d e. subst (λ n. HasRoomLeft m w n) (sym c.act.view_is) (make_left m ns w c.args.act h d (next ∙ ap Some e))

pub ended-requires-clause-exists : goal.ended-requires-clause-exists
ended-requires-clause-exists c =
    let m = c.self.inside.state.module_run in
    let ns = c.self.inside.finishes in
    let w = c.self.inside.state.world in
    let h = held m ns w c.self.invariant in
    let next = subst (λ (v : CoreValue). next_instruction v.module_run v.world c.args.act ≡ Some c.args.instr.now) (sym c.self.view_is) c.requires.here in
    (exists m ns w c.args.act h c.args.instr.now (runs m ns w c.args.act h c.args.instr.now next)).0

pub ended-requires-clause-runs : goal.ended-requires-clause-runs
ended-requires-clause-runs c =
    let m = c.self.inside.state.module_run in
    let ns = c.self.inside.finishes in
    let w = c.self.inside.state.world in
    let h = held m ns w c.self.invariant in
    let next = subst (λ (v : CoreValue). next_instruction v.module_run v.world c.args.act ≡ Some c.args.instr.now) (sym c.self.view_is) c.requires.here in
    alive m ns w c.args.act h c.args.instr.now (runs m ns w c.args.act h c.args.instr.now next)

pub ended-requires-clause-closed : goal.ended-requires-clause-closed
ended-requires-clause-closed c =
    let m = c.self.inside.state.module_run in
    let ns = c.self.inside.finishes in
    let w = c.self.inside.state.world in
    let h = held m ns w c.self.invariant in
    let next = subst (λ (v : CoreValue). next_instruction v.module_run v.world c.args.act ≡ Some c.args.instr.now) (sym c.self.view_is) c.requires.here in
    let goes : carried m w c.args.act c.args.instr.now ≡ Stepped c.execute_visible-event.new.self.world c.execute_visible-event.result =
    subst (λ n. carried m w n c.args.instr.now ≡ Stepped c.execute_visible-event.new.self.world c.execute_visible-event.result) c.act.view_is c.execute_visible-event.ensures.stepped in
    carry_closed m ns w c.args.act h c.args.instr.now c.requires.plain next c.execute_visible-event.new.self.world c.execute_visible-event.result goes (sym c.is_end.ensures ∙ c.if-is_end.true)

pub invariant_of-self : goal.invariant_of-self
invariant_of-self c =
    let m = c.self.inside.state.module_run in
    let ns = c.self.inside.finishes in
    let w = c.self.inside.state.world in
    let h = held m ns w c.self.invariant in
    let next = subst (λ (v : CoreValue). next_instruction v.module_run v.world c.args.act ≡ Some c.args.instr.now) (sym c.self.view_is) c.requires.here in
    let goes : carried m w c.args.act c.args.instr.now ≡ Stepped c.execute_visible-event.new.self.world c.execute_visible-event.result =
    subst (λ n. carried m w n c.args.instr.now ≡ Stepped c.execute_visible-event.new.self.world c.execute_visible-event.result) c.act.view_is c.execute_visible-event.ensures.stepped in
    rw c.ended.ensures.ended (parts_in m c.execute_visible-event.new.self.module_run (changed_at ns c.args.act node_ended) c.execute_visible-event.new.self.world c.execute_visible-event.ensures.same
    (held_on m ns (changed_at ns c.args.act node_ended) w c.execute_visible-event.new.self.world c.args.act c.execute_visible-event.result h
    (carry_ended m ns w c.args.act h c.args.instr.now c.requires.plain next c.execute_visible-event.new.self.world c.execute_visible-event.result goes
    (sym c.is_end.ensures ∙ c.if-is_end.true)).1
    (carry_ended m ns w c.args.act h c.args.instr.now c.requires.plain next c.execute_visible-event.new.self.world c.execute_visible-event.result goes (sym c.is_end.ensures ∙ c.if-is_end.true)).0))

pub invariant_of-self-else-is_end : goal.invariant_of-self-else-is_end
invariant_of-self-else-is_end c =
    let m = c.self.inside.state.module_run in
    let ns = c.self.inside.finishes in
    let w = c.self.inside.state.world in
    let h = held m ns w c.self.invariant in
    let next = subst (λ (v : CoreValue). next_instruction v.module_run v.world c.args.act ≡ Some c.args.instr.now) (sym c.self.view_is) c.requires.here in
    let goes : carried m w c.args.act c.args.instr.now ≡ Stepped c.execute_visible-event.new.self.world c.execute_visible-event.result =
    subst (λ n. carried m w n c.args.instr.now ≡ Stepped c.execute_visible-event.new.self.world c.execute_visible-event.result) c.act.view_is c.execute_visible-event.ensures.stepped in
    parts_in m c.execute_visible-event.new.self.module_run ns c.execute_visible-event.new.self.world c.execute_visible-event.ensures.same (held_on m ns ns w c.execute_visible-event.new.self.world c.args.act c.execute_visible-event.result h
    (carry_stepped m ns w c.args.act h c.args.instr.now c.requires.plain next c.execute_visible-event.new.self.world c.execute_visible-event.result goes
    (sym c.is_end.ensures ∙ c.if-is_end.false)).1
    (carry_stepped m ns w c.args.act h c.args.instr.now c.requires.plain next c.execute_visible-event.new.self.world c.execute_visible-event.result goes (sym c.is_end.ensures ∙ c.if-is_end.false)).0)

pub returns-then-is_end-clause-stepped : goal.returns-then-is_end-clause-stepped
returns-then-is_end-clause-stepped c =
    let m = c.self.inside.state.module_run in
    let ns = c.self.inside.finishes in
    let w = c.self.inside.state.world in
    let h = held m ns w c.self.invariant in
    let next = subst (λ (v : CoreValue). next_instruction v.module_run v.world c.args.act ≡ Some c.args.instr.now) (sym c.self.view_is) c.requires.here in
    let goes : carried m w c.args.act c.args.instr.now ≡ Stepped c.execute_visible-event.new.self.world c.execute_visible-event.result =
    subst (λ n. carried m w n c.args.instr.now ≡ Stepped c.execute_visible-event.new.self.world c.execute_visible-event.result) c.act.view_is c.execute_visible-event.ensures.stepped in
    rw c.ended.ensures.ended (subst (λ (v : CoreValue). step v.module_run v.world c.args.act ≡ Stepped
    (with_finishes (changed_at ns c.args.act node_ended) c.execute_visible-event.new.self.world) c.execute_visible-event.result) c.self.view_is
    (carry_ended m ns w c.args.act h c.args.instr.now c.requires.plain next c.execute_visible-event.new.self.world c.execute_visible-event.result goes (sym c.is_end.ensures ∙ c.if-is_end.true)).0)

pub returns-else-is_end-clause-stepped : goal.returns-else-is_end-clause-stepped
returns-else-is_end-clause-stepped c =
    let m = c.self.inside.state.module_run in
    let ns = c.self.inside.finishes in
    let w = c.self.inside.state.world in
    let h = held m ns w c.self.invariant in
    let next = subst (λ (v : CoreValue). next_instruction v.module_run v.world c.args.act ≡ Some c.args.instr.now) (sym c.self.view_is) c.requires.here in
    let goes : carried m w c.args.act c.args.instr.now ≡ Stepped c.execute_visible-event.new.self.world c.execute_visible-event.result =
    subst (λ n. carried m w n c.args.instr.now ≡ Stepped c.execute_visible-event.new.self.world c.execute_visible-event.result) c.act.view_is c.execute_visible-event.ensures.stepped in
    subst (λ (v : CoreValue). step v.module_run v.world c.args.act ≡ Stepped (with_finishes ns c.execute_visible-event.new.self.world) c.execute_visible-event.result) c.self.view_is
    (carry_stepped m ns w c.args.act h c.args.instr.now c.requires.plain next c.execute_visible-event.new.self.world c.execute_visible-event.result goes (sym c.is_end.ensures ∙ c.if-is_end.false)).0
