use Rattle.std.proofs.Common.{◌∙◌, ap, drop}
use Rattle.xk_explain.specs.Explanations.{marked_from}
use Rattle.xk_explain.proofs.ExcerptLemmas.{excerpt_added}
use Rattle.xk_explain.proofs.places.push_excerpt.Goals as goal

pub returns : goal.returns
returns c =
    excerpt_added _ _ _ _ _ _ _ _ _ c.in_ok-push.ensures.items c.in_ok-extend_from_slice.ensures.items c.deref.ensures.value c.in_ok-excerpt.ensures
    c.lines.ensures (c.marked_from-marked.ensures ∙ ap (λ t. marked_from (drop c.args.at t)) c.bytes.ensures)
