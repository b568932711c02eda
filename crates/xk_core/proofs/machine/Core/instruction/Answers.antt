use Rattle.std.proofs.Common.{◌≡◌, ◌<◌, Some, length, ◌∙◌, sym, subst, ap, arith}
use Rattle.xk_types.specs.World.{instruction_at}
use Rattle.xk_activity.specs.Activities.{act_at}
use Rattle.xk_law_commute.specs.Conflicts.{next_instruction}
use Rattle.xk_core.specs.Core.{CoreValue}
use Rattle.xk_core.proofs.FinishTreeLemmas.{held, parts_roomy}
use Rattle.xk_core.proofs.FinishViewLemmas.{length_told}
use Rattle.xk_core.proofs.QuietStepLemmas.{instruction_told}
use Rattle.xk_core.proofs.machine.Core.instruction.Goals as goal

pub next-requires-clause-there : goal.next-requires-clause-there
next-requires-clause-there c =
    let lt : c.args.act < length c.self.inside.state.world.activities = omega (
      arith,
      subst (λ (v : CoreValue). c.args.act < length v.world.activities) (sym c.self.view_is) c.requires,
      length_told c.self.inside.finishes c.self.inside.state.world.activities c.self.invariant.1.width,
    ) in
    rw (c.activities.ensures.list, c.act.view_is) lt

pub next-requires-clause-stands : goal.next-requires-clause-stands
next-requires-clause-stands c =
    let m = c.self.inside.state.module_run in
    let ns = c.self.inside.finishes in
    let w = c.self.inside.state.world in
    let lt : c.args.act < length w.activities = omega (
      arith,
      subst (λ (v : CoreValue). c.args.act < length v.world.activities) (sym c.self.view_is) c.requires,
      length_told ns w.activities c.self.invariant.1.width,
    ) in
    rw (c.activities.ensures.module, c.activities.ensures.list, c.act.view_is) (parts_roomy m ns w c.args.act (held m ns w c.self.invariant) lt).stands

pub returns : goal.returns
returns c =
    let m = c.self.inside.state.module_run in
    let ns = c.self.inside.finishes in
    let w = c.self.inside.state.world in
    let lt : c.args.act < length w.activities = omega (
      arith,
      subst (λ (v : CoreValue). c.args.act < length v.world.activities) (sym c.self.view_is) c.requires,
      length_told ns w.activities c.self.invariant.1.width,
    ) in
    subst (λ (v : CoreValue). next_instruction v.module_run v.world c.args.act ≡ Some c.next.result.now) c.self.view_is
    (instruction_told m ns w c.args.act c.self.invariant.1.width lt ∙ ap (λ n. instruction_at m (act_at w.activities n).frame) (sym c.act.view_is)
    ∙ ap (λ l. instruction_at m (act_at l c.act.inside.0).frame) (sym c.activities.ensures.list)
    ∙ ap (λ k. instruction_at k (act_at c.activities.result.now.list c.act.inside.0).frame) (sym c.activities.ensures.module) ∙ c.next.ensures)
