use Rattle.std.proofs.Common.{◌∙◌, ◌++◌, take, ap, sym}
use Rattle.std.proofs.lemmas.List.{take_more}
use Rattle.xk_outcomes.specs.Ways.{steps_of}
use Rattle.xk_outcomes.proofs.FoundLemmas.{steps_more}
use Rattle.xk_outcomes.proofs.entries.Entries.steps.Goals as goal

pub loop-number-preserved : goal.loop-number-preserved
loop-number-preserved c =
    let ways = c.args.self.now.ways in
    let list = c.args.ways.now in
    let at = c.loop-number.number-index in
    c.in_ok-extend_from_slice.ensures.items ∙ ap (λ l. l ++ c.way.result.now) c.loop-number.invariant
    ∙ ap (λ w. steps_of ways (take at list) ++ w) c.way.ensures
    ∙ sym (steps_more ways (take at list) _)
    ∙ ap (steps_of ways) (sym (take_more list at _ c.loop-number-test.true))
