use Rattle.std.proofs.Common.{◌∙◌, length, ap}
use Rattle.std.specs.Prelude.{filter}
use Rattle.xk_show_names.specs.declared.accounts.Account.{Account}
use Rattle.xk_show_lanes.specs.Lanes.{is_asked}
use Rattle.xk_show_lanes.specs.NamedLanes.{named_grid}
use Rattle.xk_show_lanes.proofs.KeptLemmas.{kept_asked}
use Rattle.xk_show_lanes.proofs.named_lanes.named_columns.Goals as goal

pub returns-clause-grid : goal.returns-clause-grid
returns-clause-grid c =
    let e = c.args.legal.now in
    let w = c.args.window in
    let p = c.args.places.now in
    let n = c.in_ok-names.names in
    let left = c.leave_asked.ensures ∙ ap (filter (λ (a : Account). is_asked w a.step.number)) c.requires.kept in
    let asked = left ∙ kept_asked w e.module.now e.log.now e.core.now.world in
    c.in_ok-grid.ensures
    ∙ ap (λ k. named_grid p n w c.deref-2.result.now k) c.activities.ensures.count
    ∙ ap (λ l. named_grid p n w l (length e.core.now.world.activities)) (c.deref-2.ensures.value ∙ asked)
