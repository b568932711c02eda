use Rattle.std.proofs.Common.{◌≡◌, true, None, sym, subst}
use Rattle.xk_types.specs.Step.{Stepped, step}
use Rattle.xk_types.specs.Schedule.{is_enabled}
use Rattle.xk_core.specs.InstructionEffect.{passed_on}
use Rattle.xk_core.specs.Core.{CoreValue, next_instruction}
use Rattle.xk_core.specs.FinishView.{with_finishes}
use Rattle.xk_core.proofs.FinishTreeLemmas.{held, held_on, parts_in, parts_roomy, pass_within, pass_enabled, pass_stepped, pass_are}
use Rattle.xk_core.proofs.machine.Core.pass.Goals as goal

pub pass-requires-clause-enabled : goal.pass-requires-clause-enabled
pass-requires-clause-enabled c =
    let m = c.self.inside.state.module_run in
    let ns = c.self.inside.finishes in
    let w = c.self.inside.state.world in
    let h = held m ns w c.self.invariant in
    let can = subst (λ (v : CoreValue). is_enabled v.module_run v.world c.args.act ≡ true) (sym c.self.view_is) c.requires.enabled in
    let next = subst (λ (v : CoreValue). next_instruction v.module_run v.world c.args.act ≡ None) (sym c.self.view_is) c.requires.waits in
    rw c.act.view_is (pass_enabled m ns w c.args.act h can next)

pub pass-requires-clause-room : goal.pass-requires-clause-room
pass-requires-clause-room c =
    let m = c.self.inside.state.module_run in
    let ns = c.self.inside.finishes in
    let w = c.self.inside.state.world in
    let h = held m ns w c.self.invariant in
    let can = subst (λ (v : CoreValue). is_enabled v.module_run v.world c.args.act ≡ true) (sym c.self.view_is) c.requires.enabled in
    let next = subst (λ (v : CoreValue). next_instruction v.module_run v.world c.args.act ≡ None) (sym c.self.view_is) c.requires.waits in
    rw c.act.view_is (parts_roomy m ns w c.args.act h (pass_within w c.args.act (pass_enabled m ns w c.args.act h can next)))

pub invariant_of-self : goal.invariant_of-self
invariant_of-self c =
    let m = c.self.inside.state.module_run in
    let ns = c.self.inside.finishes in
    let w = c.self.inside.state.world in
    let h = held m ns w c.self.invariant in
    let can = subst (λ (v : CoreValue). is_enabled v.module_run v.world c.args.act ≡ true) (sym c.self.view_is) c.requires.enabled in
    let next = subst (λ (v : CoreValue). next_instruction v.module_run v.world c.args.act ≡ None) (sym c.self.view_is) c.requires.waits in
    let passes : passed_on w c.args.act ≡ Stepped c.pass.new.self.world c.pass.result =
    subst (λ n. passed_on w n ≡ Stepped c.pass.new.self.world c.pass.result) c.act.view_is c.pass.ensures.stepped in
    parts_in m c.pass.new.self.module_run ns c.pass.new.self.world c.pass.ensures.same (held_on m ns ns w c.pass.new.self.world c.args.act c.pass.result h
    (pass_are m ns w c.args.act h c.pass.new.self.world c.pass.result can passes)
    (pass_stepped m ns w c.args.act h can next c.pass.new.self.world c.pass.result passes))

pub returns-clause-stepped : goal.returns-clause-stepped
returns-clause-stepped c =
    let m = c.self.inside.state.module_run in
    let ns = c.self.inside.finishes in
    let w = c.self.inside.state.world in
    let h = held m ns w c.self.invariant in
    let can = subst (λ (v : CoreValue). is_enabled v.module_run v.world c.args.act ≡ true) (sym c.self.view_is) c.requires.enabled in
    let next = subst (λ (v : CoreValue). next_instruction v.module_run v.world c.args.act ≡ None) (sym c.self.view_is) c.requires.waits in
    let passes : passed_on w c.args.act ≡ Stepped c.pass.new.self.world c.pass.result =
    subst (λ n. passed_on w n ≡ Stepped c.pass.new.self.world c.pass.result) c.act.view_is c.pass.ensures.stepped in
    subst (λ (v : CoreValue). step v.module_run v.world c.args.act ≡ Stepped (with_finishes ns c.pass.new.self.world) c.pass.result) c.self.view_is
    (pass_stepped m ns w c.args.act h can next c.pass.new.self.world c.pass.result passes)
