use Rattle.std.proofs.Common.{◌∙◌, ap}
use Rattle.xk_lines.specs.Signs.{shown_signs, signs}
use Rattle.x10clock.proofs.AnswerLemmas.{joined_four}
use Rattle.x10clock.proofs.unopened_lines.Goals as goal

pub returns : goal.returns
returns c =
    joined_four _ _ _ _ _ _ _ _ _ _ _
    (c.in_ok-lines.ensures.items ∙ c.as_bytes.ensures.value)
    c.in_ok-extend_from_slice.ensures.items
    (c.deref.ensures.value ∙ (c.in_ok-shown.ensures ∙ ap (λ t. shown_signs (signs t)) c.as_bytes-2.ensures.value))
    c.in_ok-extend_from_slice-2.ensures.items
    (c.as_bytes-3.ensures.value ∙ c.reason_of.ensures)
    c.in_ok-extend_from_slice-3.ensures.items
    c.as_bytes-4.ensures.value
