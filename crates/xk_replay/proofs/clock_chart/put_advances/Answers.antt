use Rattle.std.proofs.Common.{◌∙◌, sym, string_bytes}
use Rattle.xk_replay.proofs.ChartLineLemmas.{quiet_lines}
use Rattle.xk_replay.proofs.clock_chart.put_advances.Goals as goal

pub returns-then-is_quiet-clause-lines : goal.returns-then-is_quiet-clause-lines
returns-then-is_quiet-clause-lines c = quiet_lines c.args.core.now.world (string_bytes c.args.text.now) (sym c.is_quiet.ensures ∙ c.if-is_quiet.true)
