use Rattle.std.proofs.Common.{◌≡◌, ◌∙◌, true, ap, sym, subst}
use Rattle.xk_types.specs.World.{World}
use Rattle.xk_core.specs.Core.{CoreValue, is_running, with_world}
use Rattle.xk_core.specs.State.{core_of}
use Rattle.xk_core.specs.LocalRun.{after_steps, RunsTo, AreLocal, IsUnseen}
use Rattle.xk_core.specs.FinishView.{with_finishes}
use Rattle.xk_core.proofs.FinishTreeLemmas.{held, parts}
use Rattle.xk_core.proofs.NextLocalLemmas.{Ran, runner_room, runner_ran, steps_told}
use Rattle.xk_core.proofs.TicketLemmas.{runs_told, as_before}
use Rattle.xk_core.proofs.machine.Core.apply.Goals as goal

-- the ticket's activity runs
runs : (c : goal.After-apply) → is_running (with_finishes c.self.inside.finishes c.self.inside.state.world) c.args.ticket.act ≡ true
runs c =
    let m = c.self.inside.state.module_run in
    let ns = c.self.inside.finishes in
    let w = c.self.inside.state.world in
    let h = held m ns w c.self.invariant in
    runs_told m ns w h c.args.ticket c.args.self.now c.self.view_is c.requires c.steps-walked.result c.steps-walked.ensures.walked

-- what its steps come to
ran : (c : goal.After-apply)
    → Ran c.self.inside.state.module_run c.self.inside.finishes c.self.inside.state.world c.args.ticket.act c.args.ticket.steps c.args.ticket.steps (core_of c.apply.new.self)
ran c =
    let m = c.self.inside.state.module_run in
    let ns = c.self.inside.finishes in
    let w = c.self.inside.state.world in
    let t = c.args.ticket in
    runner_ran m ns w t.act (held m ns w c.self.invariant) (runs c) t.steps t.steps (core_of c.apply.new.self) c.apply.ensures.runs

pub apply-requires-clause-before : goal.apply-requires-clause-before
apply-requires-clause-before c =
    let m = c.self.inside.state.module_run in
    let ns = c.self.inside.finishes in
    let w = c.self.inside.state.world in
    as_before m ns w (held m ns w c.self.invariant) c.args.ticket c.args.self.now c.self.view_is c.requires

pub apply-requires-clause-steps : goal.apply-requires-clause-steps
apply-requires-clause-steps c =
    let m = c.self.inside.state.module_run in
    let ns = c.self.inside.finishes in
    let w = c.self.inside.state.world in
    let t = c.args.ticket in
    let h = held m ns w c.self.invariant in
    runner_room m ns w t.act h (runs_told m ns w h t c.args.self.now c.self.view_is c.requires c.steps-walked.result c.steps-walked.ensures.walked)

pub invariant_of-self : goal.invariant_of-self
invariant_of-self c = parts c.apply.new.self.module_run c.self.inside.finishes c.apply.new.self.world (ran c).held

pub returns-clause-runs : goal.returns-clause-runs
returns-clause-runs c = subst (λ (v : CoreValue). is_running v.world c.args.ticket.act ≡ true) c.self.view_is (runs c)

pub returns-clause-ran : goal.returns-clause-ran
returns-clause-ran c = subst (λ (v : CoreValue). RunsTo v c.args.ticket.act c.args.ticket.steps
    (record { module_run = c.apply.new.self.module_run; world = with_finishes c.self.inside.finishes c.apply.new.self.world })) c.self.view_is (ran c).goes

pub returns-clause-local : goal.returns-clause-local
returns-clause-local c = subst (λ (v : CoreValue). AreLocal v c.args.ticket.act c.args.ticket.steps) c.self.view_is (ran c).shows

pub returns-clause-unseen : goal.returns-clause-unseen
returns-clause-unseen c = subst (λ (v : CoreValue). IsUnseen v c.args.ticket.act c.args.ticket.steps) c.self.view_is (ran c).hides

pub returns-clause-changed : goal.returns-clause-changed
returns-clause-changed c =
    let m = c.self.inside.state.module_run in
    let ns = c.self.inside.finishes in
    let w = c.self.inside.state.world in
    let t = c.args.ticket in
    let d : CoreValue = record { module_run = c.apply.new.self.module_run; world = with_finishes ns c.apply.new.self.world } in
    subst (λ (v : CoreValue). d ≡ with_world v (after_steps v.world t.act t.new t.steps)) c.self.view_is
    (ap (λ (v : CoreValue). record { module_run = v.module_run; world = with_finishes ns v.world }) c.apply.ensures.changed
    ∙ ap (λ (u : World). record { module_run = m; world = u }) (sym (steps_told m ns w t.act (held m ns w c.self.invariant) (runs c) t.new t.steps)))
