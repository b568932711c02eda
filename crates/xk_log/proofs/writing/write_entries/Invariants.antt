use Rattle.std.proofs.Common.{length, take, ◌-◌, ◌≡◌, ◌≤◌, ◌++◌}
use Rattle.std.specs.Io.KnownBytes.{Appends}
use Rattle.xk_log.specs.LogText.{ended, head_line, entry_lines}
use Rattle.xk_log.proofs.writing.write_entries.Given as goal

-- the first line and those of the entries so far were written, and no write failed
abbrev pub invariant-loop-done : goal.invariant-loop-done
invariant-loop-done g l = record {
  within : l.done ≤ length l.entries;
  appended : Appends (g.W.Sink.contents l.fn.sink) (g.W.Sink.contents l.sink) (ended head_line ++ entry_lines (take l.done l.entries));
  no_fault : g.W.Sink.fault_count l.sink ≡ g.W.Sink.fault_count l.fn.sink;
}

abbrev pub decreases-loop-done : goal.decreases-loop-done
decreases-loop-done g l = length l.entries - l.done
