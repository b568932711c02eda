use Rattle.std.proofs.Common.{length, take, ◌-◌, ◌≡◌, ◌≤◌}
use Rattle.std.specs.Io.KnownBytes.{Appends}
use Rattle.xk_io.specs.Lines.{number_lines}
use Rattle.xk_io.proofs.writing.write_numbers.Given as goal

-- the lines of the numbers so far were written, and no write failed
abbrev pub invariant-loop-done : goal.invariant-loop-done
invariant-loop-done g l = record {
  within : l.done ≤ length l.numbers;
  appended : Appends (g.W.Sink.contents l.fn.sink) (g.W.Sink.contents l.sink) (number_lines (take l.done l.numbers));
  no_fault : g.W.Sink.fault_count l.sink ≡ g.W.Sink.fault_count l.fn.sink;
}

abbrev pub decreases-loop-done : goal.decreases-loop-done
decreases-loop-done g l = length l.numbers - l.done
