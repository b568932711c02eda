use Rattle.std.proofs.Common.{◌≡◌, ℕ, List, drop, map}
use Rattle.std.specs.Option.{option_or}
use Rattle.xk_names.specs.Scope.{find}
use Rattle.xk_source_semantics.specs.Parts.{method_among}
use Rattle.xk_numbering.specs.Views.{part}
use Rattle.xk_numbering.proofs.part_graph.method_places.Given as goal

-- what the table has for a name, or the parts that are left
abbrev pub invariant-loop-i : goal.invariant-loop-i
invariant-loop-i l = (x : List ℕ) → option_or (find l.table x) (method_among l.i (map part (drop l.i l.parts)) x) ≡ method_among 0 (map part l.parts) x
