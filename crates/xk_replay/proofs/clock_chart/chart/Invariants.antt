use Rattle.std.proofs.Common.{string_bytes}
use Rattle.xk_replay.specs.Chart.{AreLiving}
use Rattle.xk_replay.proofs.ChartLineLemmas.{IsCharted}
use Rattle.xk_replay.proofs.clock_chart.chart.Given as goal

abbrev pub invariant-loop-entry : goal.invariant-loop-entry
invariant-loop-entry l = record {
  charted : IsCharted l.ended.module.now l.ended.core.world.arguments l.ended.log.items l.entry-index l.core (string_bytes l.text);
  living : AreLiving l.core l.lists.living;
}
