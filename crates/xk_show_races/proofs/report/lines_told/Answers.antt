use Rattle.std.proofs.Common.{◌≡◌, ℕ, List, IfOk, subst}
use Rattle.xk_show_names.specs.Accounts.{seen_accounts}
use Rattle.xk_show_races.proofs.StepLemmas.{same_lines}
use Rattle.xk_show_races.proofs.report.lines_told.Goals as goal

pub returns : goal.returns
returns c =
    let e = c.args.ended.now in
    subst (λ (t : List ℕ). IfOk c.lines_of.result (λ v. v.items ≡ t))
    (same_lines c.args.source.now c.args.names.now c.in_ok-steps.steps (seen_accounts e.module.now e.core.world.arguments e.log.items)
    c.args.races.now c.in_ok-steps.ensures)
    c.lines_of.ensures
