use Rattle.std.proofs.Common.{◌≡◌, not, Some, ◌∙◌, sym, subst, ap}
use Rattle.std.specs.Option.{option_copied}
use Rattle.xk_types.specs.declared.instr.Instr.TheVariants as instruction
use Rattle.xk_finishes.specs.Tree.{awaits_innermost}
use Rattle.xk_core.specs.Enabledness.{is_kept}
use Rattle.xk_core.specs.Core.{CoreValue, next_instruction}
use Rattle.xk_core.specs.FinishView.{with_finishes}
use Rattle.xk_core.proofs.FinishTreeLemmas.{held, runs, exists, close_open, kept_told}
use Rattle.xk_core.proofs.FinishTreeLemmas.{twice}
use Rattle.xk_core.proofs.machine.Core.is_kept.Goals as goal

pub empty-requires-clause-exists : goal.empty-requires-clause-exists
empty-requires-clause-exists c =
    let m = c.self.inside.state.module_run in
    let ns = c.self.inside.finishes in
    let w = c.self.inside.state.world in
    let h = held m ns w c.self.invariant in
    let next : next_instruction m (with_finishes ns w) c.args.act ≡ Some (instruction.EndFinish c.in-Some-EndFinish.field-0-0) =
    subst (λ (v : CoreValue). next_instruction v.module_run v.world c.args.act ≡ Some (instruction.EndFinish c.in-Some-EndFinish.field-0-0)) (sym c.self.view_is)
    (ap (next_instruction c.args.self.now.module_run c.args.self.now.world) (sym c.act.view_is) ∙ sym c.next_instruction.ensures
    ∙ ap option_copied c.in-Some-EndFinish.is ∙ ap (λ i. Some i) c.in-Some-EndFinish.field-0-is) in
    (exists m ns w c.args.act h (instruction.EndFinish c.in-Some-EndFinish.field-0-0) (runs m ns w c.args.act h (instruction.EndFinish c.in-Some-EndFinish.field-0-0) next)).0

pub empty-requires-clause-opened : goal.empty-requires-clause-opened
empty-requires-clause-opened c =
    let m = c.self.inside.state.module_run in
    let ns = c.self.inside.finishes in
    let w = c.self.inside.state.world in
    let h = held m ns w c.self.invariant in
    let next : next_instruction m (with_finishes ns w) c.args.act ≡ Some (instruction.EndFinish c.in-Some-EndFinish.field-0-0) =
    subst (λ (v : CoreValue). next_instruction v.module_run v.world c.args.act ≡ Some (instruction.EndFinish c.in-Some-EndFinish.field-0-0)) (sym c.self.view_is)
    (ap (next_instruction c.args.self.now.module_run c.args.self.now.world) (sym c.act.view_is) ∙ sym c.next_instruction.ensures
    ∙ ap option_copied c.in-Some-EndFinish.is ∙ ap (λ i. Some i) c.in-Some-EndFinish.field-0-is) in
    close_open m ns w c.args.act h c.in-Some-EndFinish.field-0-0 (runs m ns w c.args.act h (instruction.EndFinish c.in-Some-EndFinish.field-0-0) next)

pub returns-in-Some-EndFinish : goal.returns-in-Some-EndFinish
returns-in-Some-EndFinish c =
    let m = c.self.inside.state.module_run in
    let ns = c.self.inside.finishes in
    let w = c.self.inside.state.world in
    let h = held m ns w c.self.invariant in
    let next : next_instruction m (with_finishes ns w) c.args.act ≡ Some (instruction.EndFinish c.in-Some-EndFinish.field-0-0) =
    subst (λ (v : CoreValue). next_instruction v.module_run v.world c.args.act ≡ Some (instruction.EndFinish c.in-Some-EndFinish.field-0-0)) (sym c.self.view_is)
    (ap (next_instruction c.args.self.now.module_run c.args.self.now.world) (sym c.act.view_is) ∙ sym c.next_instruction.ensures
    ∙ ap option_copied c.in-Some-EndFinish.is ∙ ap (λ i. Some i) c.in-Some-EndFinish.field-0-is) in
    rw c.empty.ensures.waits (subst (λ (v : CoreValue). not (not (awaits_innermost ns c.args.act)) ≡ is_kept v.module_run v.world c.args.act)
    c.self.view_is (twice (awaits_innermost ns c.args.act)
    ∙ sym (kept_told m ns w c.args.act h c.in-Some-EndFinish.field-0-0 next (runs m ns w c.args.act h (instruction.EndFinish c.in-Some-EndFinish.field-0-0) next))))
