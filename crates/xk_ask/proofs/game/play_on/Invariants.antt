use Rattle.std.proofs.Common.{◌≡◌}
use Rattle.xk_ask.specs.Answers.{most_bytes}
use Rattle.xk_ask.specs.Asking.{to_come}
use Rattle.xk_ask.proofs.PlayLemmas.{IsPlaying, IsUsing}
use Rattle.xk_ask.proofs.game.play_on.Given as goal

-- some answers were followed, and no device failed
abbrev pub invariant-loop-answer : goal.invariant-loop-answer
invariant-loop-answer g l = record {
  playing : IsPlaying l.text l.fn.game.driver l.fn.game.log.items (g.E.Sink.contents l.fn.err) (to_come most_bytes (g.R.Source.remaining l.fn.input))
      l.game.driver l.game.log.items (g.E.Sink.contents l.err) (to_come l.left (g.R.Source.remaining l.input));
  using : IsUsing l.fn.game.driver.module_run l.fn.game.driver.world (g.R.Source.remaining l.fn.input)
      l.game.driver.world l.left (g.R.Source.remaining l.input);
  no_read_fault : g.R.Source.fault_count l.input ≡ g.R.Source.fault_count l.fn.input;
  no_write_fault : g.E.Sink.fault_count l.err ≡ g.E.Sink.fault_count l.fn.err;
}

-- bytes that may still be read
abbrev pub decreases-loop-answer : goal.decreases-loop-answer
decreases-loop-answer g l = l.left
