use Rattle.std.proofs.Common.{refl}
use Rattle.xk_answers.proofs.OrderedRunLemmas.{worked_run}
use Rattle.xk_answers.proofs.replay.numbers_of.Goals as goal

pub returns : goal.returns
returns c = λ logged text.
    let ended = c.args.ended in
    rw (c.of_run.ensures, c.finish.ensures.rounds, c.finish.ensures.log, c.finish.ensures.printed) (
      c.requires,
      (ended.log.items, text, worked_run _ _ _ ended.log.items _ ended.core _ refl refl ended.run ended.over c.finish.ensures.steps),
    )
