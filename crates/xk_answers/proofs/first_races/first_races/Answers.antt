use Rattle.std.proofs.Common.{◌∙◌, ap, map, refl}
use Rattle.std.proofs.lemmas.Result.{IfOk-weaker}
use Rattle.xk_answers.specs.Explanation.{races_told}
use Rattle.xk_answers.proofs.OrderedRunLemmas.{log_without_state}
use Rattle.xk_answers.proofs.first_races.first_races.Goals as goal

pub returns : goal.returns
returns c = λ form bytes given.
    let e = c.in_ok-ended.ended in
    let is = c.in_ok-ended.ensures in
    let origins = c.args.from.now.origins in
    let shared = map (λ x. x.now) c.args.from.now.shared.items in
    IfOk-weaker c.races_of.result _ _
    (λ tale h. (
      e.printed.items,
      e.core.world.steps,
      e.log.items,
      log_without_state (λ enabled. 0) c.args.verified.now c.args.arguments.now _ e.log.items e.printed.items e.core.world.steps is.run,
      (
        shared,
        (given.1 refl).1,
        (
          origins,
          (given.1 refl).0,
          h ∙ ap (λ t. races_told c.args.json t e.module.now e.core.world.arguments e.log.items shared origins) given.0
              ∙ ap (λ m. races_told c.args.json bytes m e.core.world.arguments e.log.items shared origins) is.same_module
              ∙ ap (λ args. races_told c.args.json bytes c.args.verified.now args e.log.items shared origins) is.same_arguments,
        ),
      ),
    ))
    c.races_of.ensures
