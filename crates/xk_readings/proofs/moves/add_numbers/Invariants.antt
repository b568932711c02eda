use Rattle.std.proofs.Common.{◌≡◌, ◌⊎◌, ℕ, ℤ, ◌<◌, [], ◌∷◌, slice_get, Some}
use Rattle.xk_readings.specs.declared.edge.Edge.{Edge}
use Rattle.xk_readings.specs.Beginnings.{IsPrintedFrom}
use Rattle.xk_readings.specs.Sets.{AreDifferent, Has, KeepsAll}
use Rattle.xk_readings.proofs.moves.add_numbers.Given as goal

-- what the edges before this place print is there
abbrev pub invariant-loop-edge : goal.invariant-loop-edge
invariant-loop-edge l = record {
  different : AreDifferent l.fn.numbers.items → AreDifferent l.numbers.items;
  kept : KeepsAll l.fn.numbers.items l.numbers.items;
  there : (j : ℕ) (e : Edge) (x : ℤ) → j < l.edge-index → slice_get l.edge-items j ≡ Some e → e.printed ≡ Some x
      → Has l.numbers.items x;
  only : (x : ℤ) → Has l.numbers.items x → Has l.fn.numbers.items x ⊎ IsPrintedFrom l.graph (l.node ∷ []) x;
}
