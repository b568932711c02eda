use Rattle.std.proofs.Common.{◌≡◌, ◌∙◌, ℕ, List, Bor, IfOk, map, ap, subst}
use Rattle.xk_show_names.specs.ClockNames.{NamesValue, births_among, names_by}
use Rattle.xk_show_lanes.proofs.KeptLemmas.{names_kept}
use Rattle.xk_show_lanes.proofs.named_lanes.kept_names.Goals as goal

pub returns : goal.returns
returns c =
    let e = c.args.legal.now in
    let p = c.args.places.now in
    let steps = c.args.kept.now in
    let shared = map {A = Bor (List ℕ)} {B = List ℕ} (λ x. x.now) c.args.shared.now in
    subst (λ (n : NamesValue). IfOk c.by_steps.result (λ x. x ≡ n))
    (ap (λ m. names_by p shared (births_among m steps)) c.module-program.ensures.same
    ∙ names_kept p shared c.args.window e.module.now e.log.now e.core.now.world steps c.requires.kept)
    c.by_steps.ensures
