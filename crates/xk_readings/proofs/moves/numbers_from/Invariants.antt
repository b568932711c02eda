use Rattle.std.proofs.Common.{◌≡◌, ℕ, ℤ, ◌<◌, slice_get, Some}
use Rattle.xk_readings.specs.declared.edge.Edge.{Edge}
use Rattle.xk_readings.specs.Graphs.{HasEdge}
use Rattle.xk_readings.specs.Beginnings.{IsPrintedFrom}
use Rattle.xk_readings.specs.Sets.{AreDifferent, Has}
use Rattle.xk_readings.proofs.moves.numbers_from.Given as goal

-- what edges print from the nodes before this place is there
abbrev pub invariant-loop-node : goal.invariant-loop-node
invariant-loop-node l = record {
  different : AreDifferent l.numbers.items;
  there : (j k : ℕ) (e : Edge) (x : ℤ) → j < l.node-index → slice_get l.nodes j ≡ Some k → HasEdge l.graph e → e.from ≡ k
      → e.printed ≡ Some x → Has l.numbers.items x;
  only : (x : ℤ) → Has l.numbers.items x → IsPrintedFrom l.graph l.nodes x;
}
