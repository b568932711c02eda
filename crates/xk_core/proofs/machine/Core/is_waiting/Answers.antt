use Rattle.std.proofs.Common.{◌≡◌, ◌∙◌, sym, ap, subst}
use Rattle.xk_core.specs.Core.{CoreValue, is_waiting}
use Rattle.xk_core.proofs.LocalStepLemmas.{waiting_told}
use Rattle.xk_core.proofs.machine.Core.is_waiting.Goals as goal

pub returns : goal.returns
returns c =
    let ns = c.self.inside.finishes in
    let w = c.self.inside.state.world in
    subst (λ (v : CoreValue). c.is_waiting.result ≡ is_waiting v.world c.args.act) c.self.view_is
    (c.is_waiting.ensures ∙ ap (is_waiting w) c.act.view_is ∙ sym (waiting_told ns w c.self.invariant.1.width c.args.act))
