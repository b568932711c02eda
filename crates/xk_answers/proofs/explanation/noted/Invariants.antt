use Rattle.std.proofs.Common.{◌≡◌, take}
use Rattle.xk_explain_bounds.specs.Notes.{accepted_notes}
use Rattle.xk_answers.specs.Explanation.{with_hints}
use Rattle.xk_answers.proofs.explanation.noted.Given as goal

-- behind the notes on the bounds stand the hints so far
abbrev pub invariant-loop-hint : goal.invariant-loop-hint
invariant-loop-hint l = l.notes.items ≡ with_hints (accepted_notes l.verified l.origins) (take l.hint-index l.hints)
