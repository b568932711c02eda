use Rattle.std.proofs.Common.{◌≡◌, ◌∙◌, Bool, List, ap}
use Rattle.xk_races.specs.declared.deeds.Deed.{Deed}
use Rattle.xk_span.specs.Steps.{steps_of_run, steps_times}
use Rattle.xk_show_span.specs.Text.{text_by}
use Rattle.xk_show_span.proofs.report.span.Goals as goal

pub returns-clause-text : goal.returns-clause-text
returns-clause-text c =
    let e = c.args.ended.now in
    let p = c.args.places.now in
    let free = c.in_ok-free.free in
    let ds = c.in_ok-timing.timing.deeds.items in
    let run = steps_of_run e.module.now e.core.world.arguments e.log.items in
    c.in_ok-text.ensures
    ∙ ap (text_by p free ds) c.in_ok-timing.ensures.times
    ∙ ap (λ (d : List Deed). text_by p free d (steps_times d)) c.in_ok-timing.ensures.deeds
    ∙ ap (λ (f : Bool). text_by p f run (steps_times run)) c.in_ok-free.ensures
