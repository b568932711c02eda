use Rattle.std.proofs.Common.{string_bytes}
use Rattle.xk_replay.proofs.ChartLineLemmas.{clock_more, clock_there, clocks_all}
use Rattle.xk_replay.proofs.clock_chart.put_lines.Goals as goal

pub advance_line-requires-clause-clock : goal.advance_line-requires-clause-clock
advance_line-requires-clause-clock c = clock_there c.args.core.now.world c.args.clocks.now c.loop-clock.clock-index c.loop-clock-test.true c.requires.clocks

pub loop-clock-preserved : goal.loop-clock-preserved
loop-clock-preserved c =
    clock_more c.args.core.now.world c.args.clocks.now c.loop-clock.clock-index (string_bytes c.loop-clock.text) (string_bytes c.in_ok-line.line) (string_bytes c.put.new.text)
    (string_bytes c.args.text.now) c.loop-clock-test.true c.loop-clock.invariant c.in_ok-line.ensures c.in_ok-put.ensures

pub returns : goal.returns
returns c =
    clocks_all c.args.core.now.world c.args.clocks.now c.loop-clock.clock-index (string_bytes c.loop-clock.text) (string_bytes c.args.text.now) c.loop-clock-test.false
    c.requires.clocks c.loop-clock.invariant
