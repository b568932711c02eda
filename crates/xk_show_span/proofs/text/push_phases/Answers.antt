use Rattle.std.proofs.Common.{◌∙◌, ap}
use Rattle.xk_show_span.specs.Text.{waits_text}
use Rattle.xk_show_span.proofs.JoinedLemmas.{both}
use Rattle.xk_show_span.proofs.text.push_phases.Goals as goal

pub returns : goal.returns
returns c =
    both _ _ _ _ _ _ _
    c.in_ok-extend_from_slice.ensures.items
    (c.deref-2.ensures.value ∙ c.in_ok-phases.ensures)
    c.in_ok-extend_from_slice-2.ensures.items
    (c.deref-3.ensures.value ∙ c.in_ok-text.ensures ∙ ap (waits_text c.args.places.now) (c.deref.ensures.value ∙ c.in_ok-waits.ensures))
