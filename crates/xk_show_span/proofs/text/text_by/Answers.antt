use Rattle.std.proofs.Common.{◌∙◌, ap}
use Rattle.xk_span_summary.specs.Stretches.{stretches_of}
use Rattle.xk_span_summary.specs.Waits.{waits_of}
use Rattle.xk_show_span.specs.Phases.{phases_text}
use Rattle.xk_show_span.specs.Text.{lines_text, path_text, waits_text}
use Rattle.xk_show_span.proofs.JoinedLemmas.{joined}
use Rattle.xk_show_span.proofs.text.text_by.Goals as goal

pub returns : goal.returns
returns c =
    let p = c.args.places.now in
    let times = c.args.timing.now.times.items in
    let path = c.deref.ensures.value ∙ c.requires.path in
    let timed = c.deref-2.ensures.value in
    let done = c.deref-3.ensures.value in
    let deeds = c.deref-3.result.now in
    joined _ _ _ _ _ _ _ _ _ _ _ _ _ _ _
    c.in_ok-out.ensures
    c.in_ok-push_path.ensures
    (ap (λ s. path_text p (stretches_of s)) path)
    (ap (lines_text p) path)
    c.in_ok-push_phases.ensures
    (ap (λ t. phases_text p t deeds) timed ∙ ap (phases_text p times) done)
    (ap (λ t. waits_text p (waits_of t deeds)) timed ∙ ap (λ d. waits_text p (waits_of times d)) done)
    c.in_ok-extend_from_slice.ensures.items
    (c.as_bytes.ensures.value ∙ c.scope_line.ensures)
