use Rattle.std.proofs.Common.{◌≡◌, true, false, not, ◌&&◌, ◌∙◌, sym, subst, ap}
use Rattle.xk_types.specs.Schedule.{is_enabled}
use Rattle.xk_core.specs.Enabledness.{is_able, is_kept}
use Rattle.xk_core.specs.Core.{CoreValue}
use Rattle.xk_core.specs.FinishView.{with_finishes}
use Rattle.xk_core.proofs.FinishTreeLemmas.{held, parts_able}
use Rattle.xk_core.proofs.machine.Core.enabled.Goals as goal

pub returns-then-is_able : goal.returns-then-is_able
returns-then-is_able c =
    let m = c.self.inside.state.module_run in
    let ns = c.self.inside.finishes in
    let w = c.self.inside.state.world in
    let h = held m ns w c.self.invariant in
    let able : is_able w c.args.act ≡ true = sym (c.is_able.ensures ∙ ap (λ n. is_able w n) c.act.view_is) ∙ c.if-is_able.true in
    subst (λ (v : CoreValue). not c.is_kept.result ≡ is_enabled v.module_run v.world c.args.act) c.self.view_is
    (ap not (c.is_kept.ensures ∙ ap (λ (v : CoreValue). is_kept v.module_run v.world c.args.act) (sym c.self.view_is))
    ∙ ap (λ b. b && not (is_kept m (with_finishes ns w) c.args.act)) (sym able) ∙ parts_able m ns w c.args.act h)

pub returns-else-is_able : goal.returns-else-is_able
returns-else-is_able c =
    let m = c.self.inside.state.module_run in
    let ns = c.self.inside.finishes in
    let w = c.self.inside.state.world in
    let h = held m ns w c.self.invariant in
    let able : is_able w c.args.act ≡ false = sym (c.is_able.ensures ∙ ap (λ n. is_able w n) c.act.view_is) ∙ c.if-is_able.false in
    subst (λ (v : CoreValue). c.is_able.result ≡ is_enabled v.module_run v.world c.args.act) c.self.view_is
    (c.if-is_able.false ∙ ap (λ b. b && not (is_kept m (with_finishes ns w) c.args.act)) (sym able) ∙ parts_able m ns w c.args.act h)
