-- There is no such deed.
use Rattle.std.proofs.Common.{◌≡◌, ◌∙◌, ◌++◌, None, slice_get, sym, ap}
use Rattle.std.proofs.lemmas.List.{append-nil}
use Rattle.std.proofs.lemmas.Option.{slice_get_past}
use Rattle.xk_span.specs.Steps.{step_in}
use Rattle.xk_span.proofs.paths.push_step_at.Goals as goal

pub returns-in-None : goal.returns-in-None
returns-in-None c =
    let list = c.args.steps.now.items in
    let none : slice_get c.args.deeds.now c.args.j ≡ None =
    slice_get_past c.args.deeds.now c.args.j c.in-None.ensures.lookup.3 in
    sym (append-nil list) ∙ ap (λ o. list ++ step_in o) (sym none)
