use Rattle.std.proofs.Common.{◌≡◌, ◌∙◌, sym, ap, subst}
use Rattle.xk_core.specs.Core.{CoreValue, is_living}
use Rattle.xk_core.proofs.LocalStepLemmas.{living_told}
use Rattle.xk_core.proofs.machine.Core.is_living.Goals as goal

pub returns : goal.returns
returns c =
    let ns = c.self.inside.finishes in
    let w = c.self.inside.state.world in
    subst (λ (v : CoreValue). c.is_living.result ≡ is_living v.world c.args.act) c.self.view_is
    (c.is_living.ensures ∙ ap (is_living w) c.act.view_is ∙ sym (living_told ns w c.self.invariant.1.width c.args.act))
