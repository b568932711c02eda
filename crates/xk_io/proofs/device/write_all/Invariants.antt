use Rattle.std.proofs.Common.{◌≡◌, ◌-◌, ◌≤◌, length, take}
use Rattle.std.specs.Io.KnownBytes.{Appends}
use Rattle.xk_io.proofs.device.write_all.Given as goal

-- so many bytes of the text were written, and no write failed
abbrev pub invariant-loop-written : goal.invariant-loop-written
invariant-loop-written g l = record {
  within : l.written ≤ length l.text;
  appended : Appends (g.W.Sink.contents l.fn.sink) (g.W.Sink.contents l.sink) (take l.written l.text);
  no_fault : g.W.Sink.fault_count l.sink ≡ g.W.Sink.fault_count l.fn.sink;
}

abbrev pub decreases-loop-written : goal.decreases-loop-written
decreases-loop-written g l = length l.text - l.written
