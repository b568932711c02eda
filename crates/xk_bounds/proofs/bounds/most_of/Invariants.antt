-- the instructions so far
use Rattle.std.proofs.Common.{slice_index}
use Rattle.xk_bounds.specs.declared.bounds.TheConstants.{CUT}
use Rattle.xk_bounds.specs.Measure.{weight_of}
use Rattle.xk_bounds.proofs.WeightSumLemmas.{IsMeasured}
use Rattle.xk_bounds.proofs.bounds.most_of.Given as goal

abbrev pub invariant-loop-instr : goal.invariant-loop-instr
invariant-loop-instr l = IsMeasured (weight_of l.counted) (slice_index l.table) l.u CUT l.instr-index l.before.items l.here l.most
