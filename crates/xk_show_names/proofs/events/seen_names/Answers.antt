use Rattle.std.proofs.Common.{◌≡◌, ◌∙◌, ℕ, List, Bor, IfOk, map, ap, subst}
use Rattle.xk_show_names.specs.ClockNames.{NamesValue, births_among, names_by}
use Rattle.xk_show_names.proofs.BirthLemmas.{names_seen}
use Rattle.xk_show_names.proofs.events.seen_names.Goals as goal

pub returns : goal.returns
returns c =
    let e = c.args.legal.now in
    let p = c.args.places.now in
    let steps = c.args.steps.now in
    let shared = map {A = Bor (List ℕ)} {B = List ℕ} (λ x. x.now) c.args.shared.now in
    subst (λ (n : NamesValue). IfOk c.by_steps.result (λ x. x ≡ n))
    (ap (λ m. names_by p shared (births_among m steps)) c.module-program.ensures.same
    ∙ names_seen p shared e.module.now e.core.now.world.arguments e.log.now steps c.requires.steps)
    c.by_steps.ensures
