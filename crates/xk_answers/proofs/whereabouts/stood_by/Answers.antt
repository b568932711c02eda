use Rattle.std.proofs.Common.{◌∙◌, ap, map, refl}
use Rattle.xk_answers.specs.Explanation.{where_told}
use Rattle.xk_answers.proofs.LogLemmas.{some_each}
use Rattle.xk_answers.proofs.whereabouts.stood_by.Goals as goal

pub returns-clause-done : goal.returns-clause-done
returns-clause-done g c = λ form file bytes given.
    let v = c.args.verified.now in
    let args = c.args.arguments.now in
    let origins = c.args.from.now.origins in
    let shared = map (λ x. x.now) c.args.from.now.shared.items in
    let told = c.in_ok-tale.ensures ∙ ap (λ t. where_told c.args.json t v args c.args.at c.entries.result.now shared origins) given.0
    ∙ ap (λ es. where_told c.args.json bytes v args c.args.at es shared origins) c.entries.ensures in
    some_each _ _ (g.L.Source.remaining c.args.log_in.now)
    (λ logged text.
    (c.requires.accepted, (c.requires.taken, (c.in_ok-log.log, text, (shared, (given.1 refl).1, (origins, (given.1 refl).0, told))))))
    c.in_ok-log.ensures.of_some
