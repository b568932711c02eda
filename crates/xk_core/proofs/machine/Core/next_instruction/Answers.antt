use Rattle.std.proofs.Common.{◌≡◌, ◌∙◌, sym, subst}
use Rattle.std.specs.Option.{option_copied}
use Rattle.xk_core.specs.Core.{CoreValue, next_instruction}
use Rattle.xk_core.proofs.FinishTreeLemmas.{held, parts_roomy, next_told}
use Rattle.xk_core.proofs.machine.Core.next_instruction.Goals as goal

pub next_instruction-requires : goal.next_instruction-requires
next_instruction-requires c =
    let m = c.self.inside.state.module_run in
    let ns = c.self.inside.finishes in
    let w = c.self.inside.state.world in
    λ there. (parts_roomy m ns w c.args.a (held m ns w c.self.invariant) there).stands

pub returns : goal.returns
returns c = subst (λ (v : CoreValue). option_copied c.next_instruction.result ≡ next_instruction v.module_run v.world c.args.a) c.self.view_is
    (c.next_instruction.ensures
    ∙ sym (next_told c.self.inside.state.module_run c.self.inside.finishes c.self.inside.state.world c.self.invariant.1.width c.args.a))
