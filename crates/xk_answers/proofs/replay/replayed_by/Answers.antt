use Rattle.std.proofs.Common.{subst, sym}
use Rattle.xk_types.specs.Acceptance.{IsAccepted}
use Rattle.xk_answers.specs.Results.{ComesTo, Replay}
use Rattle.xk_answers.proofs.LogLemmas.{some_each}
use Rattle.xk_answers.proofs.replay.replayed_by.Goals as goal

pub numbers_of-requires : goal.numbers_of-requires
numbers_of-requires g c = subst IsAccepted (sym c.in_ok-ended.ensures.same_module) c.requires.accepted

pub returns-clause-done : goal.returns-clause-done
returns-clause-done g c =
    let is = c.in_ok-ended.ensures in
    some_each _ _ (g.L.Source.remaining c.args.log_in.now)
    (λ logged text. subst (λ args. ComesTo Replay c.args.verified.now args logged c.numbers_of.result) is.same_arguments
    (subst (λ m. ComesTo Replay m c.in_ok-ended.ended.core.world.arguments logged c.numbers_of.result) is.same_module (c.numbers_of.ensures logged text))) is.log
