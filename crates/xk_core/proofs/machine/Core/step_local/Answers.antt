use Rattle.std.proofs.Common.{◌≡◌, true, sym, subst}
use Rattle.xk_types.specs.Schedule.{is_enabled}
use Rattle.xk_core.specs.Core.{CoreValue, TakesStep, Locally, is_running}
use Rattle.xk_core.specs.State.{core_of}
use Rattle.xk_core.specs.FinishView.{with_finishes}
use Rattle.xk_core.proofs.FinishTreeLemmas.{held, parts, parts_roomy}
use Rattle.xk_core.proofs.LocalStepLemmas.{local_there, local_right, local_told}
use Rattle.xk_core.proofs.machine.Core.step_local.Goals as goal

pub local-requires-clause-there : goal.local-requires-clause-there
local-requires-clause-there c =
    let m = c.self.inside.state.module_run in
    let ns = c.self.inside.finishes in
    let w = c.self.inside.state.world in
    let h = held m ns w c.self.invariant in
    let runs : is_running (with_finishes ns w) c.args.act ≡ true = subst (λ (v : CoreValue). is_running v.world c.args.act ≡ true) (sym c.self.view_is) c.requires.runs in
    rw c.act.view_is (local_there m ns w c.args.act h runs)

pub local-requires-clause-right : goal.local-requires-clause-right
local-requires-clause-right c =
    let m = c.self.inside.state.module_run in
    let ns = c.self.inside.finishes in
    let w = c.self.inside.state.world in
    let h = held m ns w c.self.invariant in
    let runs : is_running (with_finishes ns w) c.args.act ≡ true = subst (λ (v : CoreValue). is_running v.world c.args.act ≡ true) (sym c.self.view_is) c.requires.runs in
    rw c.act.view_is (local_right m ns w c.args.act h runs)

pub local-requires-clause-room : goal.local-requires-clause-room
local-requires-clause-room c =
    let m = c.self.inside.state.module_run in
    let ns = c.self.inside.finishes in
    let w = c.self.inside.state.world in
    let h = held m ns w c.self.invariant in
    let runs : is_running (with_finishes ns w) c.args.act ≡ true = subst (λ (v : CoreValue). is_running v.world c.args.act ≡ true) (sym c.self.view_is) c.requires.runs in
    rw c.act.view_is (parts_roomy m ns w c.args.act h (local_there m ns w c.args.act h runs))

pub invariant_of-self : goal.invariant_of-self
invariant_of-self c =
    let m = c.self.inside.state.module_run in
    let ns = c.self.inside.finishes in
    let w = c.self.inside.state.world in
    let h = held m ns w c.self.invariant in
    let runs : is_running (with_finishes ns w) c.args.act ≡ true = subst (λ (v : CoreValue). is_running v.world c.args.act ≡ true) (sym c.self.view_is) c.requires.runs in
    let can : is_enabled m (with_finishes ns w) c.args.act ≡ true =
    subst (λ (v : CoreValue). is_enabled v.module_run v.world c.args.act ≡ true) (sym c.self.view_is) c.requires.enabled in
    let t : TakesStep (record { module_run = m; world = w }) c.args.act c.local.result (core_of c.local.new.self) =
    subst (λ n. TakesStep (record { module_run = m; world = w }) n c.local.result (core_of c.local.new.self)) c.act.view_is c.local.ensures in
    let told = local_told m ns w c.args.act h runs can c.local.result (core_of c.local.new.self) t in
    parts c.local.new.self.module_run ns c.local.new.self.world told.1

pub returns-clause-stepped : goal.returns-clause-stepped
returns-clause-stepped c =
    let m = c.self.inside.state.module_run in
    let ns = c.self.inside.finishes in
    let w = c.self.inside.state.world in
    let h = held m ns w c.self.invariant in
    let runs : is_running (with_finishes ns w) c.args.act ≡ true = subst (λ (v : CoreValue). is_running v.world c.args.act ≡ true) (sym c.self.view_is) c.requires.runs in
    let can : is_enabled m (with_finishes ns w) c.args.act ≡ true =
    subst (λ (v : CoreValue). is_enabled v.module_run v.world c.args.act ≡ true) (sym c.self.view_is) c.requires.enabled in
    let t : TakesStep (record { module_run = m; world = w }) c.args.act c.local.result (core_of c.local.new.self) =
    subst (λ n. TakesStep (record { module_run = m; world = w }) n c.local.result (core_of c.local.new.self)) c.act.view_is c.local.ensures in
    let told = local_told m ns w c.args.act h runs can c.local.result (core_of c.local.new.self) t in
    subst (λ (v : CoreValue). Locally v c.args.act c.local.result (record { module_run = c.local.new.self.module_run; world = with_finishes ns c.local.new.self.world }))
    c.self.view_is told.2
