use Rattle.std.specs.Io.KnownBytes.{Keeps}
use Rattle.xk_types.proofs.std_devices.read_through.Given as goal

-- reads that were interrupted took nothing
abbrev pub invariant-loop : goal.invariant-loop
invariant-loop g l = Keeps (g.R.Read.remaining l.fn.reader) (g.R.Read.remaining l.reader)
