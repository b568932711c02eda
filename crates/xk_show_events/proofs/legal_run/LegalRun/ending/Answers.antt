use Rattle.xk_show_events.specs.Endings.{ending_words}
use Rattle.xk_show_events.proofs.legal_run.LegalRun.ending.Goals as goal

pub returns : goal.returns
unfolding ending_words
returns c = rw (c.steps_done-steps.ensures.count, c.living-living.ensures) at c.format.ensures.ok
