use Rattle.xk_show_span.proofs.phase_lines.earlier_words.Goals as goal

pub returns : goal.returns
unfolding Rattle.xk_show_span.specs.Phases.earlier_words
returns c = rw c.saturating_sub-rounds.ensures at c.format.ensures.ok
