use Rattle.std.proofs.Common.{◌∙◌, ap}
use Rattle.xk_span.specs.Steps.{steps_of_run}
use Rattle.xk_show_path.specs.Rounds.{rounds_by}
use Rattle.xk_show_path.proofs.RoundLemmas.{rounds_are}
use Rattle.xk_show_path.proofs.rounds.Rounds.of.Goals as goal

pub returns : goal.returns
returns c =
    let e = c.args.ended.now in
    let timing = c.in_ok-timing.timing in
    let told = c.in_ok-timing.ensures in
    let rounded = c.in_ok-rounds.ensures ∙ ap (λ t. rounds_by t c.deref-2.result.now) c.deref.ensures.value
    ∙ ap (rounds_by timing.times.items) c.deref-2.ensures.value in
    rounds_are timing.deeds.items (steps_of_run e.module.now e.core.world.arguments e.log.items) timing.times.items
    c.in_ok-rounds.rounds.items timing.path.items told.deeds told.times rounded told.path
