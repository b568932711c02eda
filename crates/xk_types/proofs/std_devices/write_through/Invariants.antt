use Rattle.std.specs.Io.KnownBytes.{Keeps}
use Rattle.xk_types.proofs.std_devices.write_through.Given as goal

-- writes that were interrupted added nothing
abbrev pub invariant-loop : goal.invariant-loop
invariant-loop g l = Keeps (g.W.Write.contents l.fn.writer) (g.W.Write.contents l.writer)
