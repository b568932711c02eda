use Rattle.std.proofs.Common.{◌≡◌, ℕ, true, not, length, slice_get, Some}
use Rattle.std.specs.Prelude.{count_by}
use Rattle.xk_readings.specs.Graphs.{graph}
use Rattle.xk_readings.specs.Useful.{AreReadable}
use Rattle.xk_readings.proofs.useful.useful_nodes.Given as goal

abbrev pub invariant-passes : goal.invariant-passes
invariant-passes l = record {
  many : length l.useful.items ≡ length l.ends;
  readable : AreReadable (graph l.edges l.ends) l.useful.items;
  ends : (k : ℕ) → slice_get l.ends k ≡ Some true → slice_get l.useful.items k ≡ Some true;
}

abbrev pub decreases-passes : goal.decreases-passes
decreases-passes l = count_by not l.useful.items
