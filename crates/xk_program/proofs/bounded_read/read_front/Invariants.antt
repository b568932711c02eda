use Rattle.std.proofs.Common.{◌≡◌, ◌-◌, ◌≤◌, length}
use Rattle.std.specs.Io.KnownBytes.{Consumes}
use Rattle.xk_program.proofs.bounded_read.read_front.Given as goal

-- what was found is what the source gave, not more than was wanted, and no read failed
abbrev pub invariant-loop-piece : goal.invariant-loop-piece
invariant-loop-piece g l = record {
  within : length l.found.items ≤ l.most;
  consumed : Consumes (g.R.Source.remaining l.fn.source) (g.R.Source.remaining l.source) l.found.items;
  no_fault : g.R.Source.fault_count l.source ≡ g.R.Source.fault_count l.fn.source;
}

abbrev pub decreases-loop-piece : goal.decreases-loop-piece
decreases-loop-piece g l = l.most - length l.found.items
